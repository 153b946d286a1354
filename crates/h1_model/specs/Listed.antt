-- The header list of a message: its pseudo-headers, and after them the fields that pass.
use Rattle.std.specs.Prelude.{ℕ, ◌&&◌, not, List, [], ◌∷◌, Option, None, Some, is_none, ◌==◌, unwrap_or, codes, if◌then◌else◌}
use Rattle.header_maps.specs.Faults.{add_fault, request_fault, response_fault}
use Rattle.header_maps.specs.Headers.{Headers}
use Rattle.header_maps.specs.Operations.{added, request_headers, response_headers}
use Rattle.h1_model.specs.Fields.{Pair, passing_fields, passing_response_fields}
use Rattle.h1_model.specs.Target.{Scheme, http, https, Target}

-- the list with these fields put last, one after another; none where it does not take one of them
abbrev pub with_fields : Headers → List Pair → Option Headers
with_fields headers [] = Some headers
with_fields headers (f ∷ fs) = if is_none (add_fault headers f.0 f.1) then with_fields (added headers f.0 f.1) fs else None

abbrev pub scheme_text : Scheme → List ℕ
scheme_text http = codes "http"
scheme_text https = codes "https"

-- the list of a request with this method, target and Host value, and these fields as they were received
abbrev pub request_list : List ℕ → Target → List ℕ → List Pair → Option Headers
request_list method target host fields =
    let scheme = scheme_text target.scheme in
    let authority = unwrap_or target.authority host in
    if is_none (request_fault method scheme authority target.path)
    then with_fields (request_headers method scheme authority target.path) (passing_fields fields) else None

-- the list of a response, or of an interim head, with this status; 101 belongs to an upgrade, which is never asked for
-- (RFC 9110, section 15.2.2)
abbrev pub response_list : ℕ → List Pair → Option Headers
response_list status fields =
    if is_none (response_fault status) && not (status == 101)
    then with_fields (response_headers status) (passing_response_fields fields) else None
