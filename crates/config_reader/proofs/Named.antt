-- What a name's fault is.
use Rattle.std.proofs.Common.{◌≡◌, ℕ, List, Bool, true, false, Option, Some, None, refl, ap, ◌∙◌, rules}
use Rattle.config_reader.specs.Judge.{name_in, fault_if, name_fault}

pub refused_name : (why : ℕ) (f : List ℕ → Bool) (o : Option (List ℕ)) (s : List ℕ) → Some s ≡ name_in o → f s ≡ true → Some why ≡ name_fault why f o
refused_name why f o s e t =
    let here : Some why ≡ fault_if why f (Some s) = rw t in
    here ∙ ap (fault_if why f) e

pub taken_name : (why : ℕ) (f : List ℕ → Bool) (o : Option (List ℕ)) (s : List ℕ) → Some s ≡ name_in o → f s ≡ false → None ≡ name_fault why f o
taken_name why f o s e t =
    let here : None ≡ fault_if why f (Some s) = rw t in
    here ∙ ap (fault_if why f) e

pub no_name : (why : ℕ) (f : List ℕ → Bool) (o : Option (List ℕ)) → None ≡ name_in o → Some 4 ≡ name_fault why f o
no_name why f o e = ap (fault_if why f) e
