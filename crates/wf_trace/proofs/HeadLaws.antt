-- Laws of the settings of a head: where a word is split, and how faults combine.
use Rattle.std.proofs.Common.{◌≡◌, ◌≢◌, ℕ, zero, suc, ◌<◌, List, [], ◌∷◌, length, take, drop, get_or, Bool, true, false, nat_eq, refl, ◌∙◌, ap, arith}
use Rattle.std.specs.Prelude.{Option, Some, None, Result, Ok, Err}
use Rattle.std.proofs.lemmas.Bool.Decides.{nat_tests}
use Rattle.wf_trace.specs.declared.fault.FaultKind.{FaultKind}
use Rattle.wf_frame.specs.declared.settings.Config.{Config}
use Rattle.wf_trace.specs.Faults.{first_fault}
use Rattle.wf_trace.specs.Settings.{split_once, grown, worse, after_fault, read_words, set_one, named_field}
use Rattle.wf_trace.proofs.ArgLaws.{earlier_assoc}

-- the word is split at its first =
pub split_at : (word : List ℕ) (n : ℕ) → n < length word → ((k : ℕ) → k < n → get_or word k 0 ≢ 61) →
    get_or word n 0 ≡ 61 → split_once word ≡ Some (take n word, drop 1 (drop n word))
split_at [] n inside before found = absurd (omega arith)
split_at (octet ∷ octets) zero inside before found =
    let test : nat_eq octet 61 ≡ true = grind (arith, nat_tests) in
    rw test refl
split_at (octet ∷ octets) (suc n) inside before found =
    let other = before 0 (omega arith) in
    let test : nat_eq octet 61 ≡ false = grind (arith, nat_tests) in
    rw test (ap (grown octet) (split_at octets n (omega arith)
    (λ k below. before (suc k) (omega arith)) found))

pub split_none : (word : List ℕ) → ((k : ℕ) → k < length word → get_or word k 0 ≢ 61) → split_once word ≡ None
split_none [] none = refl
split_none (octet ∷ octets) none =
    let other = none 0 (omega arith) in
    let test : nat_eq octet 61 ≡ false = grind (arith, nat_tests) in
    rw test (ap (grown octet) (split_none octets (λ k below. none (suc k) (omega arith))))

pub after_fault-worse : (fault : Option FaultKind) (other : FaultKind) (read : Result Config FaultKind) →
    after_fault fault (worse other read) ≡ after_fault (Some (first_fault fault other)) read
after_fault-worse None other read = refl
after_fault-worse (Some fault) other (Ok config) = refl
after_fault-worse (Some fault) other (Err third) = ap Err (earlier_assoc fault other third)

abbrev pub both_faults : Option FaultKind → Option FaultKind → Option FaultKind
both_faults fault None = fault
both_faults fault (Some other) = Some (first_fault fault other)

pub one_more : (fault other : Option FaultKind) (read : Result Config FaultKind) →
    after_fault fault (after_fault other read) ≡ after_fault (both_faults fault other) read
one_more fault None read = refl
one_more fault (Some other) read = after_fault-worse fault other read

-- one more setting, with a fault
pub more_settings : (whole : Result Config FaultKind) (fault : Option FaultKind) (other : FaultKind)
    (rest : List (List ℕ)) (word : List ℕ) (words : List (List ℕ)) (seen seen' : List Bool)
    (config config' : Config) →
    whole ≡ after_fault fault (read_words rest seen config) → rest ≡ word ∷ words →
    ((others : List Bool → Config → Result Config FaultKind) →
    set_one (named_field (split_once word)) seen config others
    ≡ after_fault (Some other) (others seen' config')) →
    whole ≡ after_fault (Some (first_fault fault other)) (read_words words seen' config')
more_settings whole fault other rest word words seen seen' config config' so_far is apply =
    so_far ∙ ap (λ r. after_fault fault (read_words r seen config)) is
    ∙ ap (after_fault fault) (apply (read_words words))
    ∙ after_fault-worse fault other (read_words words seen' config')
