-- One more VM that holds its module, or that has none.
use Rattle.std.proofs.Common.{◌≡◌, inl, inr, ℕ, zero, suc, ◌<◌, List, [], ◌∷◌, ◌++◌, length, All, get_or, take, drop, append_assoc, Option, Result, None, Some, Ok, Err, refl, ap, sym, subst, ◌∙◌, arith}
use Rattle.std.proofs.lemmas.List.{append-nil}
use Rattle.std.specs.Result.{IfErr}
use Rattle.gate_io.specs.Told.{Gains, GainsFront, gains_more}
use Rattle.wasm_syntax.specs.declared.module.Module.{Module}
use Rattle.gate_config.specs.declared.entries.VmEntry.{VmEntry}
use Rattle.gate_config.specs.Given.{Given, holding}
use Rattle.gate_config.specs.Kept.{IsVm}
use Rattle.vm_machines.specs.Making.{FitsBy, HasFilter}
use Rattle.gate_io.specs.Paths.{file_at}
use Rattle.config_reader.specs.Whole.{Judged, config_of}
use Rattle.config_files.specs.declared.modules.ModuleFault.{ModuleFault}
use Rattle.config_files.specs.declared.reading.LoadEnd.{LoadEnd}
use Rattle.config_files.specs.declared.reading.LoadEnd.TheVariants.{Config as NoConfig, Module as NoModule, FileFault, OutOfMemory}
use Rattle.config_files.specs.Loading.{Told, IsCode, HasCode, HoldsCode, AllHold, Holding, IsBad, IsBadAt, IsBadIn, HoldsOf, IsConfigEnd, IsFirstBadAt, IsJudged, IsNoConfig, IsNoConfigAt, IsNotLoaded, IsOfText, IsRead, HasModule, NoneBehind, NoneBehindConfig, ReadsInOrder, ReadsModules, ReadsRefused, StopsAt, StopsIn, modules_of, module_at, pages_at}

pub module_same : (files : Told) (n : ℕ) (old held : List VmEntry) → Holding files n old held → module_at n held ≡ module_at n old
module_same files zero old held h = ap (module_at 0) h
module_same files (suc n) [] held h = absurd h
module_same files (suc n) (v ∷ vs) [] h = absurd h
module_same files (suc n) (v ∷ vs) (w ∷ ws) h = module_same files n vs ws h.1

pub same_length : (files : Told) (n : ℕ) (old held : List VmEntry) → Holding files n old held → length held ≡ length old
same_length files zero old held h = ap length h
same_length files (suc n) [] held h = absurd h
same_length files (suc n) (v ∷ vs) [] h = absurd h
same_length files (suc n) (v ∷ vs) (w ∷ ws) h = ap suc (same_length files n vs ws h.1)

pub pages_same : (files : Told) (n : ℕ) (old held : List VmEntry) → Holding files n old held → pages_at n held ≡ pages_at n old
pages_same files zero old held h = ap (pages_at 0) h
pages_same files (suc n) [] held h = absurd h
pages_same files (suc n) (v ∷ vs) [] h = absurd h
pages_same files (suc n) (v ∷ vs) (w ∷ ws) h = pages_same files n vs ws h.1

-- the module of the file of a VM that comes next
pub code_next : (files : Told) (n : ℕ) (old held : List VmEntry) (m : Module) → Holding files n old held → IsCode files (module_at n held) (pages_at n held) m → IsCode files (module_at n old) (pages_at n old) m
code_next files n old held m h c =
    subst (λ (p : ℕ). IsCode files (module_at n old) p m) (pages_same files n old held h)
    (subst (λ (p : List ℕ). IsCode files p (pages_at n held) m) (module_same files n old held h) c)

pub one_more : (files : Told) (n : ℕ) (old held : List VmEntry) (m : Module) → Holding files n old held → n < length old → IsCode files (module_at n old) (pages_at n old) m → Holding files (suc n) old (holding n m held)
one_more files n [] held m h low f = absurd (omega arith)
one_more files zero (v ∷ vs) held m h low f =
    subst (λ (x : List VmEntry). Holding files 1 (v ∷ vs) (holding 0 m x)) (sym h) (record { code = m; file = f; is = refl }, refl)
one_more files (suc n) (v ∷ vs) [] m h low f = absurd h
one_more files (suc n) (v ∷ vs) (w ∷ ws) m h low f = (h.0, one_more files n vs ws m h.1 (omega arith) f)

pub all_held : (files : Told) (old held : List VmEntry) → Holding files (length old) old held → AllHold files old held
all_held files [] held h = h
all_held files (v ∷ vs) [] h = absurd h
all_held files (v ∷ vs) (w ∷ ws) h = (h.0, all_held files vs ws h.1)

first_bad : (files : Told) (v : VmEntry) (vs : List VmEntry) (e : LoadEnd) → IsBad files v e → IsBadIn files (v ∷ vs) e
first_bad files v vs (NoModule name fault) h = inl h
first_bad files v vs (NoConfig number key) h = h
first_bad files v vs FileFault h = tt
first_bad files v vs OutOfMemory h = tt

later_bad : (files : Told) (v w : VmEntry) (vs : List VmEntry) (e : LoadEnd) → HoldsCode files v w → IsBadIn files vs e → IsBadIn files (v ∷ vs) e
later_bad files v w vs (NoModule name fault) c h = inr (c.code, c.file, h)
later_bad files v w vs (NoConfig number key) c h = h
later_bad files v w vs FileFault c h = tt
later_bad files v w vs OutOfMemory c h = tt

pub bad_in : (files : Told) (n : ℕ) (old held : List VmEntry) (e : LoadEnd) → Holding files n old held → IsBadAt files n held e → IsBadIn files old e
bad_in files zero [] held e h b = absurd (subst (λ (x : List VmEntry). IsBadAt files 0 x e) h b)
bad_in files zero (v ∷ vs) held e h b = first_bad files v vs e (subst (λ (x : List VmEntry). IsBadAt files 0 x e) h b)
bad_in files (suc n) [] held e h b = absurd h
bad_in files (suc n) (v ∷ vs) [] e h b = absurd h
bad_in files (suc n) (v ∷ vs) (w ∷ ws) e h b = later_bad files v w vs e h.0 (bad_in files n vs ws e h.1 b)

-- ---- the paths

modules_more : (n : ℕ) (vms : List VmEntry) → n < length vms → modules_of (take (suc n) vms) ≡ modules_of (take n vms) ++ module_at n vms ∷ []
modules_more n [] low = absurd (omega arith)
modules_more zero (v ∷ vs) low = refl
modules_more (suc n) (v ∷ vs) low = ap (λ (l : List (List ℕ)). v.«module» ∷ l) (modules_more n vs (omega arith))

modules_cut : (n : ℕ) (vms : List VmEntry) → modules_of vms ≡ modules_of (take n vms) ++ modules_of (drop n vms)
modules_cut zero vms = refl
modules_cut (suc n) [] = refl
modules_cut (suc n) (v ∷ vs) = ap (λ (l : List (List ℕ)). v.«module» ∷ l) (modules_cut n vs)

pub read_more : (n : ℕ) (vms : List VmEntry) (a b c : Option (List (List ℕ))) → n < length vms → Gains a (modules_of (take n vms)) b → Gains b (module_at n vms ∷ []) c → Gains a (modules_of (take (suc n) vms)) c
read_more n vms a b c low first next = rw (modules_more n vms low) (gains_more a (modules_of (take n vms)) b (module_at n vms ∷ []) c first next)

-- one more read after a module
next_read : (files : Told) (v : VmEntry) (vs : List VmEntry) (read : List ℕ) (reads : List (List ℕ)) → HasCode files v → NoneBehind files vs reads → NoneBehind files (v ∷ vs) (read ∷ reads)
next_read files v vs read [] c h = tt
next_read files v vs read (next ∷ reads) c h = (c, h)

-- behind modules comes one more read at most
last_read : (files : Told) (n : ℕ) (old held : List VmEntry) (path : List ℕ) (front rest : List (List ℕ)) → Holding files n old held → path ∷ [] ≡ front ++ rest
    → NoneBehind files old (modules_of (take n old) ++ front)
last_read files zero old held path [] rest h e = tt
last_read files zero old held path (x ∷ []) rest h e = tt
last_read files zero old held path (x ∷ y ∷ front) rest h e = absurd (cc)
last_read files (suc n) [] held path front rest h e = absurd h
last_read files (suc n) (v ∷ vs) [] path front rest h e = absurd h
last_read files (suc n) (v ∷ vs) (w ∷ ws) path front rest h e =
    next_read files v vs v.«module» (modules_of (take n vs) ++ front) (h.0.code, h.0.file) (last_read files n vs ws path front rest h.1 e)

pub read_some : (files : Told) (n : ℕ) (old held : List VmEntry) (a b c : Option (List (List ℕ))) → n < length old → Holding files n old held
    → Gains a (modules_of (take n old)) b → GainsFront b (module_at n old ∷ []) c → ReadsModules files old a c
read_some files n old held a b c low h first next =
    let done = modules_of (take n old) in
    let left = modules_of (drop (suc n) old) in
    let one : modules_of (take (suc n) old) ≡ (done ++ next.front) ++ next.rest =
    modules_more n old low ∙ ap (λ (l : List (List ℕ)). done ++ l) next.whole_is ∙ sym (append_assoc done next.front next.rest) in
    record {
      gained = record {
        front = done ++ next.front;
        rest = next.rest ++ left;
        whole_is = modules_cut (suc n) old ∙ ap (λ (l : List (List ℕ)). l ++ left) one ∙ append_assoc (done ++ next.front) next.rest left;
        gained = gains_more a done b next.front c first next.gained;
      };
      none_behind = last_read files n old held (module_at n old) next.front next.rest h next.whole_is;
    }

none_behind_all : (files : Told) (old held : List VmEntry) → AllHold files old held → NoneBehind files old (modules_of old)
none_behind_all files [] held h = tt
none_behind_all files (v ∷ vs) [] h = absurd h
none_behind_all files (v ∷ vs) (w ∷ ws) h = next_read files v vs v.«module» (modules_of vs) (h.0.code, h.0.file) (none_behind_all files vs ws h.1)

pub read_all : (files : Told) (old held : List VmEntry) (a c : Option (List (List ℕ))) → AllHold files old held → Gains a (modules_of old) c → ReadsModules files old a c
read_all files old held a c h all = record {
  gained = record { front = modules_of old; rest = []; whole_is = sym (append-nil (modules_of old)); gained = all };
  none_behind = none_behind_all files old held h;
}

first_bad_at : (files : Told) (n : ℕ) (old held : List VmEntry) (name : List ℕ) (fault : ModuleFault) → Holding files n old held → IsBadAt files n held (NoModule name fault)
    → IsFirstBadAt files n old name fault
first_bad_at files zero [] held name fault h b = absurd (subst (λ (x : List VmEntry). IsBadAt files 0 x (NoModule name fault)) h b)
first_bad_at files zero (v ∷ vs) held name fault h b = subst (λ (x : List VmEntry). IsBadAt files 0 x (NoModule name fault)) h b
first_bad_at files (suc n) [] held name fault h b = absurd h
first_bad_at files (suc n) (v ∷ vs) [] name fault h b = absurd h
first_bad_at files (suc n) (v ∷ vs) (w ∷ ws) name fault h b = ((h.0.code, h.0.file), first_bad_at files n vs ws name fault h.1 b)

pub stops_in : (files : Told) (n : ℕ) (old held : List VmEntry) (e : LoadEnd) (a b c : Option (List (List ℕ))) → n < length old → Holding files n old held → IsBadAt files n held e
    → Gains a (modules_of (take n old)) b → ReadsRefused (module_at n old) e b c → StopsIn files old e a c
stops_in files n old held (NoModule name fault) a b c low h bad first last = record {
  place = n;
  first = first_bad_at files n old held name fault h bad;
  gained = read_more n old a b c low first last;
}
stops_in files n old held (NoConfig number key) a b c low h bad first last = bad_in files n old held (NoConfig number key) h bad
stops_in files n old held FileFault a b c low h bad first last = tt
stops_in files n old held OutOfMemory a b c low h bad first last = tt

pub module_is : (n : ℕ) (vms : List VmEntry) (d : VmEntry) → n < length vms → module_at n vms ≡ (get_or vms n d).«module»
module_is n [] d low = absurd (omega arith)
module_is zero (v ∷ vs) d low = refl
module_is (suc n) (v ∷ vs) d low = module_is n vs d (omega arith)

pub code_here : (files : Told) (n : ℕ) (vms : List VmEntry) (d : VmEntry) (m : Module) → n < length vms → IsCode files (get_or vms n d).«module» (get_or vms n d).pages m → IsCode files (module_at n vms) (pages_at n vms) m
code_here files n [] d m low h = absurd (omega arith)
code_here files zero (v ∷ vs) d m low h = h
code_here files (suc n) (v ∷ vs) d m low h = code_here files n vs d m (omega arith) h

pub bad_at : (files : Told) (n : ℕ) (vms : List VmEntry) (d : VmEntry) (e : LoadEnd) → n < length vms → IsBad files (get_or vms n d) e → IsBadAt files n vms e
bad_at files n [] d e low h = absurd (omega arith)
bad_at files zero (v ∷ vs) d e low h = h
bad_at files (suc n) (v ∷ vs) d e low h = bad_at files n vs d e (omega arith) h

pub modules_held : (files : Told) (old held : List VmEntry) → AllHold files old held → modules_of held ≡ modules_of old
modules_held files [] held h = ap modules_of h
modules_held files (v ∷ vs) [] h = absurd h
modules_held files (v ∷ vs) (w ∷ ws) h =
    ap (λ (x : VmEntry). x.«module» ∷ modules_of ws) h.0.is ∙ ap (λ (l : List (List ℕ)). v.«module» ∷ l) (modules_held files vs ws h.1)

-- ---- what the VMs hold

there_each : (P : VmEntry → Type 0) (w : VmEntry) (ws : List VmEntry) → P w → All P ws → All P (w ∷ ws)
there_each P w ws first others zero d low = first
there_each P w ws first others (suc k) d low = others k d (omega (arith, low))

module_there : (files : Told) (v w : VmEntry) → HoldsCode files v w → HasModule w
module_there files v w h = (h.code, ap (λ (x : VmEntry). x.code) h.is)

filter_there : (files : Told) (v w : VmEntry) → HoldsCode files v w → IsVm w → HasFilter w
filter_there files v w h is = record { fits = subst (λ (x : VmEntry). FitsBy x.code x.pages) (sym h.is) h.file.fits; pages = is.pages.1 }

pub modules_there : (files : Told) (old held : List VmEntry) → AllHold files old held → All HasModule held
modules_there files [] held h = subst (All HasModule) (sym h) (λ k d low. absurd (omega (arith, low)))
modules_there files (v ∷ vs) [] h = absurd h
modules_there files (v ∷ vs) (w ∷ ws) h = there_each HasModule w ws (module_there files v w h.0) (modules_there files vs ws h.1)

pub filters_there : (files : Told) (old held : List VmEntry) → AllHold files old held → All IsVm held → All HasFilter held
filters_there files [] held h is = subst (All HasFilter) (sym h) (λ k d low. absurd (omega (arith, low)))
filters_there files (v ∷ vs) [] h is = absurd h
filters_there files (v ∷ vs) (w ∷ ws) h is =
    there_each HasFilter w ws (filter_there files v w h.0 (is 0 w (omega arith))) (filters_there files vs ws h.1 (λ k d low. is (suc k) d (omega (arith, low))))

-- all but the VMs is as it was, over two steps
pub others_same : (a b c : Given) (x : List VmEntry) → c ≡ record b { vms = x } → b ≡ record a { vms = b.vms } → c ≡ record a { vms = c.vms }
others_same a b c x second first =
    second ∙ ap (λ (y : Given). record y { vms = x }) first ∙ ap (λ (l : List VmEntry). record a { vms = l }) (sym (ap (λ (y : Given). y.vms) second))

-- ---- the whole

one_read : (files : Told) (path : List ℕ) (judged : Judged) (front rest : List (List ℕ)) → path ∷ [] ≡ front ++ rest → NoneBehindConfig files judged front
one_read files path judged [] rest e = tt
one_read files path (Ok said) (x ∷ []) rest e = tt
one_read files path (Err refusal) (x ∷ []) rest e = refl
one_read files path (Ok said) (x ∷ y ∷ front) rest e = absurd (cc)
one_read files path (Err refusal) (x ∷ y ∷ front) rest e = absurd (cc)

-- at most the configuration was read
reads_one : (files : Told) (path : List ℕ) (judged : Judged) (old new : Option (List (List ℕ))) → IsJudged files path judged
    → GainsFront old (path ∷ []) new → ReadsInOrder files path old new
reads_one files path (Ok said) old new is h = record {
  judged = Ok said;
  of_file = is;
  gained = record {
    front = h.front;
    rest = h.rest ++ modules_of said.vms;
    whole_is = ap (λ (l : List (List ℕ)). l ++ modules_of said.vms) h.whole_is ∙ append_assoc h.front h.rest (modules_of said.vms);
    gained = h.gained;
  };
  none_behind = one_read files path (Ok said) h.front h.rest h.whole_is;
}
reads_one files path (Err refusal) old new is h = record {
  judged = Err refusal;
  of_file = is;
  gained = h;
  none_behind = one_read files path (Err refusal) h.front h.rest h.whole_is;
}

-- what the text of a file comes to as a configuration, and some refusal where it is missing
abbrev judged_at : Option (List ℕ) → Judged
judged_at None = Err (0, [])
judged_at (Some text) = config_of text

judged_is : (o : Option (List ℕ)) → IsOfText o (judged_at o)
judged_is None = tt
judged_is (Some text) = refl

pub some_judged : (files : Told) (path : List ℕ) → (judged : Judged) × IsJudged files path judged
some_judged None path = (Err (0, []), tt)
some_judged (Some fs) path = (judged_at (file_at fs path), judged_is (file_at fs path))

pub first_read : (files : Told) (path : List ℕ) (old new : Option (List (List ℕ))) → GainsFront old (path ∷ []) new → ReadsInOrder files path old new
first_read files path old new h = let j = some_judged files path in reads_one files path j.0 old new j.1 h

judged_text : (o : Option (List ℕ)) (judged : Judged) → HoldsOf o (λ text. config_of text ≡ judged) → IsOfText o judged
judged_text None judged h = absurd h
judged_text (Some text) judged h = h

-- what is read of a file is what it comes to
pub judged_of : (files : Told) (path : List ℕ) (judged : Judged) → IsRead files path judged → IsJudged files path judged
judged_of None path judged h = tt
judged_of (Some fs) path judged h = judged_text (file_at fs path) judged h

-- the configuration was read, and then modules
pub then_read : (files : Told) (path : List ℕ) (said : Given) (a b c : Option (List (List ℕ))) → IsRead files path (Ok said)
    → Gains a (path ∷ []) b → ReadsModules files said.vms b c → ReadsInOrder files path a c
then_read files path said a b c read one r = record {
  judged = Ok said;
  of_file = judged_of files path (Ok said) read;
  gained = record {
    front = path ∷ r.gained.front;
    rest = r.gained.rest;
    whole_is = ap (λ (l : List (List ℕ)). path ∷ l) r.gained.whole_is;
    gained = gains_more a (path ∷ []) b r.gained.front c one r.gained.gained;
  };
  none_behind = r.none_behind;
}

pub then_stops : (files : Told) (path : List ℕ) (said : Given) (e : LoadEnd) (a b c : Option (List (List ℕ))) → IsRead files path (Ok said)
    → Gains a (path ∷ []) b → StopsIn files said.vms e b c → StopsAt files path e a c
then_stops files path said (NoModule name fault) a b c read one s = record {
  said = said;
  read = read;
  place = s.place;
  first = s.first;
  gained = gains_more a (path ∷ []) b (modules_of (take (suc s.place) said.vms)) c one s.gained;
}
then_stops files path said (NoConfig number key) a b c read one s = absurd s
then_stops files path said FileFault a b c read one s = tt
then_stops files path said OutOfMemory a b c read one s = tt

-- the configuration was read and is refused
pub config_stops : (files : Told) (path : List ℕ) (e : LoadEnd) (a c : Option (List (List ℕ))) → IsConfigEnd e → Gains a (path ∷ []) c → StopsAt files path e a c
config_stops files path (NoConfig number key) a c is one = one
config_stops files path (NoModule name fault) a c is one = absurd is
config_stops files path FileFault a c is one = tt
config_stops files path OutOfMemory a c is one = tt

text_stops : (files : Told) (path text : List ℕ) (e : LoadEnd) (a c : Option (List (List ℕ))) → IsNoConfig text e → Gains a (path ∷ []) c → StopsAt files path e a c
text_stops files path text (NoConfig number key) a c is one = one
text_stops files path text (NoModule name fault) a c is one = absurd is
text_stops files path text FileFault a c is one = tt
text_stops files path text OutOfMemory a c is one = tt

pub text_read : {T : Type 0} (files : Told) (path text : List ℕ) (r : Result T LoadEnd) (a c : Option (List (List ℕ))) → IfErr r (IsNoConfig text) → Gains a (path ∷ []) c
    → IfErr r (λ e. StopsAt files path e a c)
text_read files path text (Ok x) a c is one = tt
text_read files path text (Err e) a c is one = text_stops files path text e a c is one

pub not_loaded : (files : Told) (path : List ℕ) (said : Given) (e : LoadEnd) → IsRead files path (Ok said) → IsBadIn files said.vms e → IsNotLoaded files path e
not_loaded files path said (NoModule name fault) read h = record { said = said; read = read; first = h }
not_loaded files path said (NoConfig number key) read h = absurd h
not_loaded files path said FileFault read h = tt
not_loaded files path said OutOfMemory read h = tt

pub no_config_loaded : (files : Told) (path : List ℕ) (e : LoadEnd) → IsNoConfigAt files path e → IsNotLoaded files path e
no_config_loaded files path (NoConfig number key) h = h
no_config_loaded files path (NoModule name fault) h = absurd h
no_config_loaded files path FileFault h = tt
no_config_loaded files path OutOfMemory h = tt
