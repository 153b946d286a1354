-- What the tables that are made of a module stand for.
use Rattle.std.specs.Prelude.{◌≡◌, ◌++◌, [], length, All}
use Rattle.wasm_syntax.specs.declared.module.Module.{Module}
use Rattle.wasm_syntax.specs.Typing.{Context}
use Rattle.wasm_syntax.specs.Validity.{imports_of, table_of, memory_of, global_of, functions_of, tables_of, memories_of, globals_of, IsSignature}
use Rattle.wasm_validator.specs.declared.scope.Scope.{Scope}
use Rattle.wasm_validator.specs.declared.names.Names.{Names}

-- a module's own, and what it imports
pub record IsScope (s : Scope) (m : Module) : Type 0 where
  pub functions : s.functions ≡ functions_of m
  pub tables : s.tables ≡ length (tables_of m)
  pub memories : s.memories ≡ length (memories_of m)
  pub globals : s.globals ≡ globals_of m
  pub imported_tables : s.imported_tables ≡ length (imports_of table_of m.imports)
  pub imported_memories : s.imported_memories ≡ length (imports_of memory_of m.imports)
  pub imported_globals : s.imported_globals ≡ imports_of global_of m.imports

-- what the names stand for, outside all blocks
abbrev pub context_in : Names → Context
context_in n = record {
  types = n.module.now.types;
  functions = n.scope.now.functions;
  tables = n.scope.now.tables;
  memories = n.scope.now.memories;
  globals = n.scope.now.globals;
  locals = n.function.now.parameters ++ n.locals.now;
  labels = [];
  results = n.function.now.results;
}

-- all functions give one value at most
abbrev pub AreSignatures : Names → Type 0
AreSignatures n = All IsSignature n.module.now.types × IsSignature n.function.now
