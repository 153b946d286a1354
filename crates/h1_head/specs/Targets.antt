-- What a target gives, as the code's values say it.
use Rattle.std.specs.Prelude.{ℕ, Bool, true, ◌&&◌, List, length, slice_index, Option, None, Some, ◌==◌, nat_le}
use Rattle.std.specs.Option.{option_map}
use Rattle.std.specs.List.{list_all}
use Rattle.http_uri.specs.ByteClasses.{slash, question_mark, is_path_byte, is_query_byte, split_once_front, split_once_back}
use Rattle.h1_model.specs.Target as model
use Rattle.h1_head.specs.declared.target.Scheme as scheme
use Rattle.h1_head.specs.declared.target.Scheme.TheVariants as schemes
use Rattle.h1_head.specs.declared.head.TargetForm as form
use Rattle.h1_head.specs.declared.head.TargetForm.TheVariants as forms
use Rattle.h1_head.specs.declared.target.RequestTarget as code

abbrev pub seen_scheme : scheme.Scheme → model.Scheme
seen_scheme schemes.Http = model.http
seen_scheme schemes.Https = model.https

abbrev pub seen_scheme_option : Option scheme.Scheme → Option model.Scheme
seen_scheme_option s = option_map seen_scheme s

abbrev pub seen_form : form.TargetForm → model.TargetForm
seen_form forms.Origin = model.origin
seen_form forms.Absolute = model.absolute
seen_form forms.Asterisk = model.asterisk

-- the parts that a value says
abbrev pub seen_target : code.RequestTarget → model.Target
seen_target t = record { form = seen_form t.form; scheme = seen_scheme t.scheme; authority = t.authority; path = t.path }

abbrev pub seen_target_option : Option code.RequestTarget → Option model.Target
seen_target_option t = option_map seen_target t

-- the text after a mark passes the test, if there is one
abbrev pub query_passes : (ℕ → Bool) → Option (List ℕ) → Bool
query_passes test None = true
query_passes test (Some text) = list_all test text

-- a byte of a path, and of a query, that this profile takes
abbrev pub is_plain_path_byte : ℕ → Bool
is_plain_path_byte b = model.is_path_value_byte b && is_path_byte b

abbrev pub is_plain_query_byte : ℕ → Bool
is_plain_query_byte b = model.is_path_value_byte b && is_query_byte b

-- a target of the origin form that this profile takes: of a length and of bytes that `http_uri` reads, all of them visible
abbrev pub is_plain_origin : List ℕ → Bool
is_plain_origin t =
    (nat_le (length t) 65534 && slice_index t 0 == slash)
    && (list_all is_plain_path_byte (split_once_front question_mark t)
    && query_passes is_plain_query_byte (split_once_back question_mark t))

-- the parts that a path gives
abbrev pub path_parts : List ℕ → model.Target
path_parts path = record { form = model.origin; scheme = model.http; authority = None; path = path }
