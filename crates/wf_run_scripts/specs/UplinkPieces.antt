-- Defines a text that is written in pieces.
use Rattle.std.specs.Prelude.{◌≡◌, ℕ, List, ◌∷◌, ◌++◌, codes, decimal, Bool, Option}
use Rattle.std.specs.List.{join_with_byte}
use Rattle.std.specs.Io.KnownBytes.{append_known}
use Rattle.wf_uplink.specs.declared.up.Up.{Up}
use Rattle.wf_run_scripts.specs.UplinkAnswers.{air_words}

-- The beginning of a line of frames that are passed up, before its items.
abbrev pub head_text : Bool → Up → List ℕ
head_text is_frame u = join_with_byte 32 (codes "up" ∷ codes "sta" ∷ decimal u.station ∷ codes "tid" ∷ decimal u.tid ∷ air_words is_frame u.air)

-- A text is written except for a last part, which is still in the line.
pub record IsBegun (old now : Option (List ℕ)) (line text : List ℕ) : Type 0 where
  pub written : List ℕ
  pub is : text ≡ written ++ line
  pub holds : now ≡ append_known old written
