-- Defines how a window lists the waiting numbers of a session, one after the other from its start on.
use Rattle.std.specs.Prelude.{◌≡◌, ℕ, ◌+◌, ◌%◌, ◌≤◌, nat_le, List, [], ◌∷◌, ◌++◌, filter}
use Rattle.wf_def_agreement.specs.Session.{Session, State, slot, start_of, next_number, waiting_numbers}
use Rattle.wf_send_parts.specs.Window.{IsNumber}

-- the waiting numbers at or past n, in ascending order
abbrev pub waiting_since : Session → ℕ → List ℕ
waiting_since s n = filter (λ m. nat_le n m) (waiting_numbers s)

-- these waiting numbers were listed, from the lowest on; the others are at or past a number that is `from`
-- modulo 4096
pub record HasListed (s : Session) (numbers : List ℕ) (from : ℕ) : Type 0 where
  pub number : ℕ
  pub on_air : from ≡ number % 4096
  pub from_start : start_of s ≤ number
  pub to_next : number ≤ next_number s
  pub rest : numbers ++ waiting_since s number ≡ waiting_numbers s

-- the number that is listed next, which is `seq` modulo 4096; the listing goes on after it
pub record IsListedNext (s : Session) (numbers : List ℕ) (seq : ℕ) : Type 0 where
  pub number : ℕ
  pub is_number : IsNumber s number seq
  pub waits : (slot s number).state ≡ State.Waiting
  pub goes_on : HasListed s (numbers ++ number ∷ []) ((seq + 1) % 4096)
