-- A module that does not fit is never refused for want of memory.
use Rattle.std.proofs.Common.{◌≡◌, ℕ, Bool, true, false, if◌then◌else◌, nat_lt, Option, None, Some, ap}
use Rattle.std.specs.List.{list_any}
use Rattle.std.specs.Option.{option_map, option_or}
use Rattle.wasm_syntax.specs.declared.module.Module.{Module}
use Rattle.wasm_syntax.specs.Stores.{first_pages}
use Rattle.wasm_store.specs.declared.instance.LinkEnd.{LinkEnd}
use Rattle.wasm_store.specs.declared.instance.LinkEnd.TheVariants as linking
use Rattle.wasm_store.specs.Linking.{link_fault, first_unknown, first_other_type, first_element_outside, first_segment_outside}
use Rattle.abi_links.specs.Judging.{judged_of}
use Rattle.vm_host.specs.declared.fitting.FitEnd.TheVariants as fitting
use Rattle.vm_host.specs.Fits.{fit_fault, unlinked, no_marker, a_misfit, is_marker, is_misfit}

no_memory : (a b c d : Option ℕ) (over : Bool)
    → option_or (option_map linking.UnknownImport a) (option_or (option_map linking.ImportType b) (option_or (if over then Some linking.PagesOverCap else None) (option_or (option_map linking.ElementOutside c) (option_map linking.DataOutside d)))) ≡ Some linking.OutOfMemory
    → ⊥
no_memory (Some x) b c d over e = cc
no_memory None (Some x) c d over e = cc
no_memory None None c d true e = cc
no_memory None None (Some x) d false e = cc
no_memory None None None (Some x) false e = cc
no_memory None None None None false e = cc

no_memory_first : (link : Option LinkEnd) (marked bad : Bool) → (link ≡ Some linking.OutOfMemory → ⊥)
    → option_or (option_map fitting.Unlinked link) (option_or (if marked then None else Some fitting.NoAbi) (if bad then Some fitting.CallbackType else None)) ≡ Some (fitting.Unlinked linking.OutOfMemory)
    → ⊥
no_memory_first (Some x) marked bad not_so e = not_so (let same : x ≡ linking.OutOfMemory = cc in ap Some same)
no_memory_first None false bad not_so e = cc
no_memory_first None true true not_so e = cc
no_memory_first None true false not_so e = cc

pub never_memory : (m : Module) (pages : ℕ) → fit_fault m pages ≡ Some (fitting.Unlinked linking.OutOfMemory) → ⊥
unfolding unlinked no_marker a_misfit
never_memory m pages e =
    no_memory_first (link_fault judged_of m pages) (list_any is_marker m.exports) (list_any (is_misfit m) m.exports)
    (no_memory (first_unknown judged_of m) (first_other_type judged_of m) (first_element_outside m) (first_segment_outside m) (nat_lt pages (first_pages m)))
    e
