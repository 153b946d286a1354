-- What callbacks are given, worked: as many numbers as each takes, and after a callout how much came back.
use Rattle.std.specs.Prelude.{◌≡◌, ℕ, List, [], ◌∷◌, None, Some, codes}
use Rattle.contexts.specs.declared.parts.CallAnswer.{CallAnswer}
use Rattle.header_maps.specs.Operations.{no_headers}
use Rattle.header_maps.specs.declared.kind.ListKind.TheVariants as kinds
use Rattle.wasm_syntax.specs.declared.types.Value.{Value}
use Rattle.wasm_syntax.specs.declared.types.Value.TheVariants.{I32}
use Rattle.vm_host.specs.RoleTypes.{counts_in, numbers_for}
use Rattle.vm_host.specs.declared.roles.Role.{Role}
use Rattle.vm_host.specs.declared.roles.Role.TheVariants as role

-- a status, one field, six bytes and two trailers
abbrev pub answer : CallAnswer
answer = record {
  fields = record { kind = kinds.Response; pairs = (codes ":status", codes "204") ∷ (codes "a", codes "b") ∷ [] };
  body = codes "called";
  trailers = record no_headers { pairs = (codes "t", codes "u") ∷ (codes "t", codes "v") ∷ [] };
}

-- a callback of context 5, with two numbers more, while that is what came back
abbrev pub given_to : Role → (first second : ℕ) → List Value
given_to r first second = numbers_for r 5 first second (counts_in (Some answer))

-- its numbers, and those of other callbacks
pub record NumberExamples : Type 0 where
  -- of callout 7
  pub answered : given_to role.CallAnswered 7 9 ≡ I32 5 ∷ I32 7 ∷ I32 2 ∷ I32 6 ∷ I32 2 ∷ []
  pub failed : numbers_for role.CallAnswered 5 7 9 (counts_in None) ≡ I32 5 ∷ I32 7 ∷ I32 0 ∷ I32 0 ∷ I32 0 ∷ []
  -- no other callback is told of it
  pub fields : given_to role.RequestHeaders 3 1 ≡ I32 5 ∷ I32 3 ∷ I32 1 ∷ []
  pub trailers : given_to role.ResponseTrailers 3 1 ≡ I32 5 ∷ I32 3 ∷ []
  pub tick : given_to role.Tick 3 1 ≡ I32 5 ∷ []
  pub bytes : given_to role.UpstreamData 3 1 ≡ I32 5 ∷ I32 3 ∷ I32 1 ∷ []
