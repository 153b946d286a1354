-- Worked examples: what the definitions say of lists that are written out.
use Rattle.std.specs.Prelude.{◌≡◌, ℕ, true, false, List, [], ◌∷◌, ◌++◌, replicate, codes, None, Some, All}
use Rattle.header_maps.specs.declared.kind.ListKind.TheVariants.{Response, Plain}
use Rattle.header_maps.specs.Faults.{bad_name, bad_value, too_many, add_fault, replace_fault, remove_fault, set_fault, response_fault}
use Rattle.header_maps.specs.Headers.{Headers}
use Rattle.header_maps.specs.Judged.{is_path}
use Rattle.header_maps.specs.Kept.{IsHeaders}
use Rattle.header_maps.specs.Operations.{no_headers, request_headers, response_headers, get_of, first_of, added, removed, replaced, all_set, size_of}
use Rattle.header_maps.specs.Pairs.{Pair}
use Rattle.header_maps.specs.Places.{pairs_in, put_at, IsWithin}
use Rattle.header_maps.specs.declared.texts.Place.{Place}

-- a request with three fields, two of one name
abbrev pub worked_fields : List Pair
worked_fields = (codes "a", codes "1") ∷ (codes "b", codes "2") ∷ (codes "a", codes "3") ∷ []

abbrev pub worked : Headers
worked = record { kind = Plain; pairs = worked_fields }

abbrev pub worked_request : Headers
worked_request = request_headers (codes "GET") (codes "http") (codes "h") (codes "/")

-- so many fields
abbrev pub fields_list : ℕ → Headers
fields_list n = record { kind = Plain; pairs = replicate n (codes "x", []) }

pub record OperationExamples : Type 0 where
  pub joined : get_of worked (codes "A") ≡ Some (codes "1,3")
  pub one : get_of worked (codes "b") ≡ Some (codes "2")
  pub none : get_of worked (codes "c") ≡ None
  pub empty : get_of (added no_headers (codes "c") []) (codes "c") ≡ Some []
  pub first : first_of worked (codes "A") ≡ Some (codes "1")
  pub add : (added worked (codes "B") (codes "4")).pairs ≡ worked_fields ++ (codes "b", codes "4") ∷ []
  pub remove : (removed worked (codes "A")).pairs ≡ (codes "b", codes "2") ∷ []
  pub replace : (replaced worked (codes "A") (codes "9")).pairs ≡ (codes "a", codes "9") ∷ (codes "b", codes "2") ∷ []
  pub replace_new : (replaced worked (codes "C") (codes "9")).pairs ≡ worked_fields ++ (codes "c", codes "9") ∷ []
  pub replace_path : get_of (replaced worked_request (codes ":PATH") (codes "/x")) (codes ":path") ≡ Some (codes "/x")
  pub set : (all_set Response ((codes "B", codes "2") ∷ (codes ":Status", codes "204") ∷ (codes "a", []) ∷ [])).pairs
      ≡ (codes ":status", codes "204") ∷ (codes "b", codes "2") ∷ (codes "a", []) ∷ []
  pub status : (response_headers 404).pairs ≡ (codes ":status", codes "404") ∷ []
  pub empty_size : size_of [] ≡ 4
  pub size : size_of ((codes "a", codes "b") ∷ []) ≡ 16

pub record FaultExamples : Type 0 where
  pub name : add_fault worked (codes "a b") [] ≡ Some bad_name
  pub no_name : add_fault worked [] [] ≡ Some bad_name
  pub name_first : add_fault (fields_list 100) (codes "a:") (10 ∷ []) ≡ Some bad_name
  pub value : add_fault (fields_list 100) (codes "a") (codes "b" ++ 10 ∷ []) ≡ Some bad_value
  pub tab : add_fault worked (codes "a") (9 ∷ []) ≡ None
  pub hundred : add_fault (fields_list 99) (codes "a") [] ≡ None
  pub hundred_one : add_fault (fields_list 100) (codes "a") [] ≡ Some too_many
  pub hundred_one_replaced : replace_fault (fields_list 100) (codes "a") [] ≡ Some too_many
  pub hundred_kept : replace_fault (fields_list 100) (codes "X") [] ≡ None
  pub pseudo_added : add_fault worked_request (codes ":path") (codes "/") ≡ Some bad_name
  pub pseudo_removed : remove_fault (codes ":path") ≡ Some bad_name
  pub absent_removed : remove_fault (codes "zz") ≡ None
  pub other_pseudo : replace_fault worked_request (codes ":status") (codes "200") ≡ Some bad_name
  pub unknown_pseudo : replace_fault worked_request (codes ":host") [] ≡ Some bad_name
  pub connect : replace_fault worked_request (codes ":method") (codes "CONNECT") ≡ Some bad_value
  pub scheme : replace_fault worked_request (codes ":scheme") (codes "ws") ≡ Some bad_value
  pub no_authority : replace_fault worked_request (codes ":authority") [] ≡ None
  pub blank_in_authority : replace_fault worked_request (codes ":authority") (codes "a b") ≡ Some bad_value
  pub star : is_path (codes "*") ≡ true
  pub fragment : is_path (codes "/a#b") ≡ false
  pub relative : is_path (codes "a") ≡ false
  pub no_path : is_path [] ≡ false

pub record StatusExamples : Type 0 where
  pub least : replace_fault (response_headers 200) (codes ":status") (codes "200") ≡ None
  pub most : replace_fault (response_headers 200) (codes ":status") (codes "599") ≡ None
  pub past : replace_fault (response_headers 200) (codes ":status") (codes "600") ≡ Some bad_value
  pub interim_in_response : replace_fault (response_headers 200) (codes ":status") (codes "199") ≡ Some bad_value
  pub response_in_interim : replace_fault (response_headers 100) (codes ":status") (codes "200") ≡ Some bad_value
  pub interim : replace_fault (response_headers 100) (codes ":status") (codes "103") ≡ None
  pub four_digits : replace_fault (response_headers 200) (codes ":status") (codes "0200") ≡ Some bad_value
  pub no_digits : replace_fault (response_headers 200) (codes ":status") (codes "2o0") ≡ Some bad_value
  pub below : response_fault 99 ≡ Some bad_value
  pub above : response_fault 600 ≡ Some bad_value

pub record SetExamples : Type 0 where
  pub nothing : set_fault Plain [] ≡ None
  pub pseudo_in_trailers : set_fault Plain ((codes ":status", codes "200") ∷ []) ≡ Some bad_name
  pub missing : set_fault Response ((codes "a", []) ∷ []) ≡ Some bad_name
  pub twice : set_fault Response ((codes ":status", codes "200") ∷ (codes ":STATUS", codes "200") ∷ []) ≡ Some bad_name
  pub names_before_values : set_fault Response ((codes ":status", codes "2") ∷ (codes "a ", []) ∷ []) ≡ Some bad_name
  pub value : set_fault Response ((codes ":status", codes "2") ∷ []) ≡ Some bad_value
  pub hundred : set_fault Plain (replicate 100 (codes "x", [])) ≡ None
  pub hundred_one : set_fault Plain (replicate 101 (codes "x", [])) ≡ Some too_many
  pub pseudo_not_counted : set_fault Response (replicate 100 (codes "x", []) ++ (codes ":status", codes "200") ∷ []) ≡ None

-- a list that is one, and two that are none
pub record KeptExamples : Type 0 where
  pub request : IsHeaders worked_request
  pub late_pseudo : IsHeaders (record { kind = Response; pairs = (codes "a", []) ∷ (codes ":status", codes "200") ∷ [] }) → ⊥
  pub upper_case : IsHeaders (record { kind = Plain; pairs = (codes "A", []) ∷ [] }) → ⊥

-- a buffer with two pairs, behind whose first name stands a value that another one was put in place of
abbrev pub worked_places : List Place
worked_places =
    record { name = 0; name_end = 1; value = 5; value_end = 7 }
    ∷ record { name = 2; name_end = 4; value = 4; value_end = 5 }
    ∷ []

pub record PlaceExamples : Type 0 where
  pub pairs : pairs_in (codes "a1bc289") worked_places ≡ (codes "a", codes "89") ∷ (codes "bc", codes "2") ∷ []
  pub within : All (IsWithin 7) worked_places
  pub short_buffer : All (IsWithin 6) worked_places → ⊥
  pub put : put_at ((codes "a", codes "1") ∷ (codes "bc", codes "2") ∷ []) 0 (codes "89") ≡ pairs_in (codes "a1bc289") worked_places
  pub put_later : put_at ((codes "a", codes "1") ∷ (codes "bc", codes "2") ∷ []) 1 [] ≡ (codes "a", codes "1") ∷ (codes "bc", []) ∷ []
