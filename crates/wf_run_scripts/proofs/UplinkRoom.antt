-- Proves that a list of calls lacks room if its first call does, or a later one.
use Rattle.std.proofs.Common.{◌≡◌, ℕ, ◌+◌, ◌^◌, ◌≤◌, ◌||◌, not, nat_lt, Bool, true, false, List, ◌∷◌, refl, ap, arith}
use Rattle.std.proofs.lemmas.Bool.Decides.{nat_tests}
use Rattle.wf_uplink.specs.Soundness.{latest}
use Rattle.wf_uplink.specs.World.{World, Call, Receive, Request, Tick, Expire, after_call}
use Rattle.wf_run_scripts.specs.UplinkRoom.{can_count, is_full, lacks_room}

either_first : (a b : Bool) → a ≡ true → (a || b) ≡ true
either_first true b is = refl
either_first false b is = absurd (cc)

either_second : (a b : Bool) → b ≡ true → (a || b) ≡ true
either_second true b is = refl
either_second false b is = is

-- The first call finds no room, or a later call finds none.
pub first_lacks : (w : World) (call : Call) (more : List Call) → is_full call w ≡ true →
    lacks_room w (call ∷ more) ≡ true
unfolding lacks_room
first_lacks w call more full = either_first (is_full call w) (lacks_room (after_call call w) more) full

pub later_lacks : (w : World) (call : Call) (more : List Call) →
    lacks_room (after_call call w) more ≡ true → lacks_room w (call ∷ more) ≡ true
unfolding lacks_room
later_lacks w call more lacks = either_second (is_full call w) (lacks_room (after_call call w) more) lacks

pub receive_lacks : (w : World) (octets : List ℕ) (more : List Call) → can_count w ≡ false →
    lacks_room w (Receive octets ∷ more) ≡ true
receive_lacks w octets more full = first_lacks w (Receive octets) more (ap not full)

pub request_lacks : (w : World) (octets : List ℕ) (more : List Call) → can_count w ≡ false →
    lacks_room w (Request octets ∷ more) ≡ true
request_lacks w octets more full = first_lacks w (Request octets) more (ap not full)

pub expire_lacks : (w : World) (more : List Call) → can_count w ≡ false →
    lacks_room w (Expire ∷ more) ≡ true
expire_lacks w more full = first_lacks w Expire more (ap not full)

pub tick_lacks : (w : World) (by : ℕ) (more : List Call) → 2 ^ 62 ≤ w.clock + by →
    lacks_room w (Tick by ∷ more) ≡ true
tick_lacks w by more large =
    let late : nat_lt (w.clock + by) latest ≡ false = grind (arith, nat_tests, large) in
    first_lacks w (Tick by) more (ap not late)
