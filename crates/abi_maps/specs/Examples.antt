-- Worked examples: what the calls on maps, buffers and streams answer.
use Rattle.std.specs.Prelude.{◌≡◌, true, false, [], ◌∷◌, codes, None, Some, Ok, Err}
use Rattle.header_maps.specs.Faults.{bad_name, bad_value, too_many}
use Rattle.header_maps.specs.Headers.{Headers}
use Rattle.header_maps.specs.declared.kind.ListKind.TheVariants.{Plain}
use Rattle.contexts.specs.declared.parts.ExchangeView.{ExchangeView}
use Rattle.contexts.specs.declared.parts.StageBuffer.{StageBuffer}
use Rattle.contexts.specs.declared.parts.EffectKind.TheVariants as what
use Rattle.contexts.specs.Reached.{Seen}
use Rattle.abi_model.specs.Calls.{answers, only, given}
use Rattle.abi_model.specs.declared.ends.Gives.TheVariants.{Bytes, Numbers}
use Rattle.abi_maps.specs.Buffers.{staged, part_read, getting_bytes, status_in, setting_bytes, no_longer}
use Rattle.abi_maps.specs.Maps.{map_at, map_for, value_as, unless, set_from}
use Rattle.abi_maps.specs.Streams.{on_stream, continuing, closing, answering, answering_in, fields_from, fields_by, is_too_late}

abbrev pub idle : StageBuffer
idle = record { held = []; is_asked = false; has_end = false }

pub record BufferExamples : Type 0 where
  pub part : part_read 1 2 (codes "abc") ≡ given (Bytes (codes "bc"))
  pub most_past_the_end : part_read 1 9 (codes "abc") ≡ given (Bytes (codes "bc"))
  pub at_the_end : part_read 3 9 (codes "abc") ≡ given (Bytes [])
  pub past_the_end : part_read 4 1 (codes "abc") ≡ only 2
  pub no_such_buffer : (s : Seen) → getting_bytes 9 0 1 s ≡ only 2
  pub never_there : (s : Seen) → getting_bytes 5 0 1 s ≡ only 1
  pub idle_stage : staged idle ≡ None
  pub asked_stage : staged (record idle { is_asked = true }) ≡ Some []
  pub held_after_a_pause : staged (record idle { held = codes "x" }) ≡ Some (codes "x")
  pub size_and_end : status_in true (Some (codes "abc")) ≡ given (Numbers 3 1)
  pub size_without_end : status_in false (Some (codes "abc")) ≡ given (Numbers 3 0)
  pub configuration_is_kept : (s : Seen) → setting_bytes 7 0 1 (codes "x") s ≡ answers 2
  pub written_never_there : (s : Seen) → setting_bytes 8 0 1 (codes "x") s ≡ answers 1
  pub room : no_longer (codes "x") ≡ Ok (codes "x")

pub record MapExamples : Type 0 where
  pub trailers_apart : (v : ExchangeView) → map_at 1 v.maps ≡ v.maps.request_trailers
  pub response : (v : ExchangeView) → map_at 2 v.maps ≡ v.maps.response
  pub not_there : (v : ExchangeView) → map_at 4 v.maps ≡ None
  pub no_such_map : (s : Seen) → map_for 8 s ≡ Err 2
  pub no_value : value_as None ≡ only 1
  pub empty_value : value_as (Some []) ≡ given (Bytes [])
  pub name : (l : Headers) → unless (Some bad_name) l ≡ Err 2
  pub value : (l : Headers) → unless (Some bad_value) l ≡ Err 2
  pub count : (l : Headers) → unless (Some too_many) l ≡ Err 10
  pub no_fault : (l : Headers) → unless None l ≡ Ok l
  pub no_pairs : set_from (1 ∷ []) (record { kind = Plain; pairs = [] }) ≡ Err 4
  pub no_bytes : set_from [] (record { kind = Plain; pairs = (codes "a", []) ∷ [] }) ≡ Ok (record { kind = Plain; pairs = [] })

pub record StreamExamples : Type 0 where
  pub no_such_stream : (s : Seen) → continuing 4 s ≡ answers 2
  pub none_closed : (s : Seen) → closing 4 s ≡ answers 2
  pub no_stream_context : (s : Seen) → on_stream 2 what.Close s false ≡ answers 2
  pub of_tcp : (s : Seen) → on_stream 2 what.Close s true ≡ answers 12
  pub status_below : (s : Seen) → answering 199 [] [] s ≡ answers 2
  pub status_above : (s : Seen) → answering 600 [] [] s ≡ answers 2
  pub no_exchange : (s : Seen) → answering_in 200 [] [] None s ≡ answers 2
  pub answered_twice : (v : ExchangeView) → is_too_late (record v { is_answering = true }) ≡ true
  pub no_fields : fields_from [] ≡ Ok (record { kind = Plain; pairs = [] })
  pub no_pairs : fields_from (1 ∷ []) ≡ Err 4
  pub no_pseudo_header : fields_by (Some ((codes ":status", codes "200") ∷ [])) ≡ Err 2
