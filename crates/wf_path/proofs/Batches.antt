-- Proves what a path reports of batches: the offsets of given transmissions; and of TIDs without an
-- agreement: the start of the window that their receivers have.
use Rattle.std.proofs.Common.{◌≡◌, refl, ap, ap₂, sym, ◌∙◌, arith, ℕ, zero, suc, ◌+◌, ◌<◌, Bool, true, false, not, ◌&&◌, if◌then◌else◌, List, [], ◌∷◌, length, drop, get_or, drop-cons, Option, Some, None}
use Rattle.std.specs.Prelude.{slice_get}
use Rattle.wf_def_lists.specs.Table.{has, with_member}
use Rattle.wf_frame.specs.Frames.{FrameValue}
use Rattle.wf_def_world.specs.World.{World, is_live, is_agreed, has_agreement}
use Rattle.wf_octets.specs.Distance.{distance}
use Rattle.wf_send_parts.specs.Modes.{as_mode, mode_of}
use Rattle.wf_send_half_model.specs.Half.{TransmitValue}
use Rattle.wf_send_half_model.specs.Standing.{StandsFor}
use Rattle.wf_path.specs.Heard.{offsets_at}
use Rattle.wf_path.specs.Transmissions.{start_on_air, start_announced}

-- ---- the loop over the numbers

-- the rest from index i on begins with the number at i
begins : (numbers : List ℕ) (i n : ℕ) → slice_get numbers i ≡ Some n →
    drop i numbers ≡ n ∷ drop (suc i) numbers
begins [] i n at = absurd (cc at)
begins (k ∷ numbers) zero n at = let same : k ≡ n = cc at in ap (λ (x : ℕ). x ∷ numbers) same
begins (k ∷ numbers) (suc i) n at = begins numbers i n at

-- one more number, whose index is given or not
offsets_then : (first i n : ℕ) (offsets numbers indices : List ℕ) (b : Bool) →
    drop i numbers ≡ n ∷ drop (suc i) numbers → has indices i ≡ b →
    offsets_at first (if b then with_member (distance n first) offsets else offsets) (i + 1)
    (drop (i + 1) numbers) indices ≡ offsets_at first offsets i (drop i numbers) indices
offsets_then first i n offsets numbers indices b rest is =
    let next : i + 1 ≡ suc i = omega arith in
    ap (λ (j : ℕ). offsets_at first (if b then with_member (distance n first) offsets else offsets) j
    (drop j numbers) indices) next
    ∙ ap (λ (a : Bool). offsets_at first (if a then with_member (distance n first) offsets else offsets)
    (suc i) (drop (suc i) numbers) indices) (sym is)
    ∙ ap (λ (ns : List ℕ). offsets_at first offsets i ns indices) (sym rest)

-- its index is given
pub offsets_taken : (first i n d : ℕ) (offsets more numbers indices : List ℕ) → slice_get numbers i ≡ Some n →
    true ≡ has indices i → d ≡ distance n first → more ≡ with_member d offsets →
    offsets_at first more (i + 1) (drop (i + 1) numbers) indices
    ≡ offsets_at first offsets i (drop i numbers) indices
offsets_taken first i n d offsets more numbers indices at is far new =
    ap (λ (l : List ℕ). offsets_at first l (i + 1) (drop (i + 1) numbers) indices)
    (new ∙ ap (λ (j : ℕ). with_member j offsets) far)
    ∙ offsets_then first i n offsets numbers indices true (begins numbers i n at) (sym is)

-- its index is not given
pub offsets_left : (first i : ℕ) (offsets more numbers indices : List ℕ) → i < length numbers →
    false ≡ has indices i → more ≡ offsets → offsets_at first more (i + 1) (drop (i + 1) numbers) indices
    ≡ offsets_at first offsets i (drop i numbers) indices
offsets_left first i offsets more numbers indices low is same =
    ap (λ (l : List ℕ). offsets_at first l (i + 1) (drop (i + 1) numbers) indices) same
    ∙ offsets_then first i (get_or numbers i 0) offsets numbers indices false (drop-cons numbers i 0 low)
    (sym is)

-- ---- the start of a window that is announced

module _ (v : TransmitValue) (w : World) (bodies : ℕ → FrameValue) (h : StandsFor v w bodies) (s t : ℕ)
    (below : t < 8) where
  -- a live TID has an agreement in the half exactly if it has one in the world
  agreed_same : is_live w s ≡ true → has_agreement (as_mode (mode_of v.modes s t)) ≡ is_agreed w s t
  agreed_same live = ap has_agreement (h.parts.others.modes.each s t live below)

  announced_if : Bool → Bool → Option ℕ
  announced_if live agreed = if live && not agreed then Some (start_on_air w s t) else None

  -- the TID has no agreement
  pub announced : (start : ℕ) → is_live w s ≡ true → has_agreement (as_mode (mode_of v.modes s t)) ≡ false →
      start ≡ start_on_air w s t → Some start ≡ start_announced w s t
  unfolding announced_if
  announced start live none is = ap (λ (n : ℕ). Some n) is
      ∙ sym (ap₂ announced_if live (sym (agreed_same live) ∙ none))

  -- the TID has an agreement
  pub not_announced : is_live w s ≡ true → has_agreement (as_mode (mode_of v.modes s t)) ≡ true →
      None ≡ start_announced w s t
  unfolding announced_if
  not_announced live has = sym (ap₂ announced_if live (sym (agreed_same live) ∙ has))

-- the station is not live
pub none_live : (w : World) (s t : ℕ) → is_live w s ≡ false → None ≡ start_announced w s t
none_live w s t dead = sym (ap (λ (b : Bool). if b && not (is_agreed w s t) then Some (start_on_air w s t)
    else None) dead)
