-- The module of the generator's filter. At the head of each request it registers its queue, `q` of the VM `m1`, and puts the request's path at
-- the queue's end.
use Rattle.std.specs.Prelude.{ℕ, pos, List, [], ◌∷◌, None, codes}
use Rattle.wasm_syntax.specs.declared.types.ValueType.{ValueType}
use Rattle.wasm_syntax.specs.declared.types.ValueType.TheVariants.{I32}
use Rattle.wasm_syntax.specs.declared.types.FunctionType.{FunctionType}
use Rattle.wasm_syntax.specs.declared.instr.Instr.{Instr}
use Rattle.wasm_syntax.specs.declared.instr.Instr.TheVariants.{Call, Drop, End, I32Const, I32Load}
use Rattle.wasm_syntax.specs.declared.module.Code.{Code}
use Rattle.wasm_syntax.specs.declared.module.Export.{Export}
use Rattle.wasm_syntax.specs.declared.module.ExportKind.TheVariants as exported
use Rattle.wasm_syntax.specs.declared.module.Import.{Import}
use Rattle.wasm_syntax.specs.declared.module.ImportKind.TheVariants as imported
use Rattle.wasm_syntax.specs.declared.module.Module.{Module}
use Rattle.wasm_syntax.specs.Grammar.{empty_module}

abbrev pub three_to_one : FunctionType
three_to_one = record { parameters = I32 ∷ I32 ∷ I32 ∷ []; results = I32 ∷ [] }

abbrev pub five_to_one : FunctionType
five_to_one = record { parameters = I32 ∷ I32 ∷ I32 ∷ I32 ∷ I32 ∷ []; results = I32 ∷ [] }

abbrev pub none_to_none : FunctionType
none_to_none = record { parameters = []; results = [] }

abbrev pub one_to_one : FunctionType
one_to_one = record { parameters = I32 ∷ []; results = I32 ∷ [] }

-- a host call of this name, by the index of its type
abbrev pub host_call : List ℕ → ℕ → Import
host_call name of = record { «module» = codes "env"; name = name; kind = imported.Function of }

abbrev pub function : List ℕ → ℕ → Export
function name index = record { name = name; kind = exported.Function index }

abbrev pub number : ℕ → Instr
number n = I32Const (pos n)

abbrev pub load : Instr
load = I32Load (record { align = 2; offset = 0 })

abbrev pub nothing_done : Code
nothing_done = record { locals = []; body = End ∷ [] }

-- whatever memory is asked for begins at 1024
abbrev pub allocation : Code
allocation = record { locals = []; body = number 1024 ∷ End ∷ [] }

-- The queue of the name at 2, of one byte, has its id put at 8. The header of the name at 3, of five bytes, is that of the request's path,
-- whose place is put at 12 and its size at 16; these go to the queue's end. The message goes on.
abbrev pub on_head : Code
on_head = record {
  locals = [];
  body =
      number 2 ∷ number 1 ∷ number 8 ∷ Call 0 ∷ Drop
      ∷ number 0 ∷ number 3 ∷ number 5 ∷ number 12 ∷ number 16 ∷ Call 1 ∷ Drop
      ∷ number 8 ∷ load ∷ number 12 ∷ load ∷ number 16 ∷ load ∷ Call 2 ∷ Drop
      ∷ number 0 ∷ End ∷ [];
}

-- THE MODULE OF THE FILTER
abbrev pub queue_filter : Module
queue_filter = record empty_module {
  types = three_to_one ∷ five_to_one ∷ none_to_none ∷ one_to_one ∷ [];
  imports = host_call (codes "proxy_register_shared_queue") 0 ∷ host_call (codes "proxy_get_header_map_value") 1 ∷ host_call (codes "proxy_enqueue_shared_queue") 0 ∷ [];
  functions = 2 ∷ 3 ∷ 0 ∷ [];
  memories = record { minimum = 1; maximum = None } ∷ [];
  exports = function (codes "proxy_abi_version_0_2_1") 3 ∷ function (codes "malloc") 4 ∷ function (codes "proxy_on_request_headers") 5 ∷ [];
  codes = nothing_done ∷ allocation ∷ on_head ∷ [];
  segments = record { memory = 0; offset = number 0 ∷ End ∷ []; bytes = codes "m1q:path" } ∷ [];
}
