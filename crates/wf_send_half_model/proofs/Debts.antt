-- Proves in which classes a call may make its station a debtor: a pull and a Done only in the class of the
-- exchange, a receive charge only in its own class, and an enqueue and a mark of a device in none. By the
-- books, which have the deficits and the open exchanges.
use Rattle.std.proofs.Common.{◌≡◌, refl, ap, sym, ◌∙◌, ℕ, ◌+◌, ◌*◌, ◌==◌, ◌-ℤ◌, pos, Bool, true, false, ◌&&◌, if◌then◌else◌, List, [], ◌∷◌, ◌++◌, map, Option, Some, None, is_some, option_map, unwrap_or}
use Rattle.std.specs.Prelude.{int_le}
use Rattle.wf_frame.specs.declared.settings.Config.{Config}
use Rattle.wf_frame.specs.declared.classes.Class.{Class}
use Rattle.wf_frame.specs.declared.notes.Ask.TheVariants.{Pull}
use Rattle.wf_frame.specs.declared.notes.Limits.{Limits}
use Rattle.wf_frame.specs.declared.notes.Note.TheVariants.{Asked}
use Rattle.wf_frame.specs.Classes.{class_number, same_class, class_of}
use Rattle.wf_def_lists.specs.Table.{at}
use Rattle.wf_def_rotation.specs.Rotation.{Picked, in_order}
use Rattle.wf_def_world.specs.World.{World, Station, Share, Exchange, no_station, no_share, owed, without_exchange}
use Rattle.wf_def_world.specs.CanSend.{is_debtor}
use Rattle.wf_def_world.specs.Exchanges.{Prepared, picked_station, sending_tid, after_tid_turn, prepared_exchange, exchange_of, charge_of}
use Rattle.wf_def_world.specs.Step.{outcome_of, enqueue_outcome, pull_outcome_for, pull_outcome, send_outcome, done_outcome, rx_outcome}
use Rattle.wf_def_lists.specs.Lists.{on}
use Rattle.wf_law_runs.proofs.Deficits.Books.{Account, account, core, Books, books, on_part, same_number, upd_same, updc_other}
use Rattle.wf_law_runs.proofs.Deficits.BookSteps.{without, after, paid, pay_share, charge_share, receive_share, books_without, books_after_turn, books_prepared, books_sent, books_ended, books_enqueued, books_received, books_after_pick}
use Rattle.wf_law_runs.proofs.Common.Marks.{marked_world}
use Rattle.wf_law_runs.proofs.Common.Picked.{picked_world}
use Rattle.wf_law_runs.proofs.Deficits.Kept.{IsKept}
use Rattle.wf_law_runs.proofs.Deficits.KeptStep.{IsFound, books_marked}
use Rattle.wf_send_half_model.proofs.ChargedClass.{HaveOwnClass, owed_append}
use Rattle.wf_send_half_model.proofs.Beyond.{own_charge, owed_elsewhere}

-- ---- debtors by the books

-- whether a station with this account is a debtor in a class, with these open exchanges
abbrev debt_of : Config → Option Account → List Exchange → ℕ → Class → Bool
debt_of config None xs s c = false
debt_of config (Some a) xs s c = (config.pending == 1)
    && int_le ((a.shares c).deficit -ℤ pos (if config.pending == 1 then owed s c xs else 0)) (pos 0)

-- the same, by the books
abbrev debts : Books → Class → ℕ → Bool
debts b c s = debt_of b.config (b.accounts s) b.opened s c

-- what the receivers set does not count
owed_core : (s : ℕ) (c : Class) (xs : List Exchange) → owed s c (map core xs) ≡ owed s c xs
owed_core s c [] = refl
owed_core s c (x ∷ xs) =
    ap (λ (n : ℕ). (if (x.station == s) && same_class x.class c then x.charge else 0) + n) (owed_core s c xs)

nobody : (b : Bool) → b && false ≡ false
nobody true = refl
nobody false = refl

debtor_is : (w : World) (c : Class) (s : ℕ) → is_debtor w c s ≡ debts (books w) c s
debtor_is w c s = go (at None w.stations s)
  where
    go : (o : Option Station) → (w.config.pending == 1) && (is_some o
        && int_le ((at no_share (unwrap_or o no_station).shares (class_number c)).deficit
        -ℤ pos (if w.config.pending == 1 then owed s c w.opened else 0)) (pos 0))
        ≡ debt_of w.config (option_map account o) (map core w.opened) s c
    go None = nobody (w.config.pending == 1)
    go (Some x) = ap (λ (n : ℕ). (w.config.pending == 1)
        && int_le ((at no_share x.shares (class_number c)).deficit
        -ℤ pos (if w.config.pending == 1 then n else 0)) (pos 0)) (sym (owed_core s c w.opened))

-- ---- changes that leave a class alone

-- a change of another class's share
other_share : (config : Config) (o : Option Account) (xs : List Exchange) (s : ℕ) (c d : Class)
    (f : Share → Share) → (class_number d ≡ class_number c → ⊥) →
    debt_of config (option_map (on_part c f) o) xs s d ≡ debt_of config o xs s d
other_share config None xs s c d f other = refl
other_share config (Some a) xs s c d f other =
    ap (λ (y : Share). (config.pending == 1)
    && int_le (y.deficit -ℤ pos (if config.pending == 1 then owed s d xs else 0)) (pos 0))
    (updc_other a.shares c d (f (a.shares c)) other)

-- other open exchanges, with the same airtime in the class
same_owed : (config : Config) (o : Option Account) (xs ys : List Exchange) (s : ℕ) (d : Class) →
    owed s d xs ≡ owed s d ys → debt_of config o xs s d ≡ debt_of config o ys s d
same_owed config None xs ys s d e = refl
same_owed config (Some a) xs ys s d e = ap (λ (n : ℕ). (config.pending == 1)
    && int_le ((a.shares d).deficit -ℤ pos (if config.pending == 1 then n else 0)) (pos 0)) e

-- a pick in another class
picked_debts : (b : Books) (p : Picked) (s : ℕ) (c d : Class) → (class_number d ≡ class_number c → ⊥) →
    debts (after b c p) d s ≡ debts b d s
picked_debts b p s c d other = go (b.accounts s)
  where
    quanta : ℕ
    quanta = on (in_order (b.rotations c)) s * p.quanta s

    go : (o : Option Account) → debt_of b.config (option_map (paid b.config.quantum c quanta) o) b.opened s d
        ≡ debt_of b.config o b.opened s d
    go None = refl
    go (Some a) = other_share b.config (Some a) b.opened s c d
        (pay_share (b.config.quantum * a.weight) quanta) other

-- ---- the calls

pub debtor_enqueued : (w : World) (s t flow len : ℕ) (d : Class) (i : ℕ) →
    is_debtor (enqueue_outcome w s t flow len).world d i ≡ is_debtor w d i
debtor_enqueued w s t flow len d i =
    debtor_is (enqueue_outcome w s t flow len).world d i
    ∙ ap (λ (b : Books). debts b d i) (books_enqueued w s t flow len)
    ∙ sym (debtor_is w d i)

pub debtor_pulled : (w : World) (c d : Class) (l : Limits) (s : ℕ) → (picked_station w c).winner ≡ Some s →
    (d ≡ c → ⊥) → is_debtor (outcome_of w (Asked (Pull c l))).world d s ≡ is_debtor w d s
unfolding outcome_of pull_outcome pull_outcome_for
debtor_pulled w c d l s won other =
    let v : World = picked_world w c l in
    let t : ℕ = sending_tid v s c in
    let p : Prepared = prepared_exchange (after_tid_turn v s c t) s t in
    let b : Books = books p.world in
    let x : Exchange = exchange_of s t c p in
    ap (λ (o : Option ℕ). is_debtor (pull_outcome_for v c o).world d s) won
    ∙ debtor_is (send_outcome s t c p).world d s
    ∙ ap (λ (z : Books). debts z d s) (books_sent s t c p)
    ∙ same_owed b.config (b.accounts s) (b.opened ++ core x ∷ []) b.opened s d
    (owed_append s d b.opened (core x) (λ e. other (sym (same_number c d e))))
    ∙ ap (λ (z : Books). debts z d s)
    (books_prepared (after_tid_turn v s c t) s t ∙ books_after_turn v s c t ∙ books_after_pick w c)
    ∙ picked_debts (books w) (picked_station w c) s c d (λ e. other (same_number d c e))
    ∙ sym (debtor_is w d s)

pub debtor_ended : (w : World) (e : ℕ) (x : Exchange) (heard : Bool) (air : Option ℕ) → IsKept (books w) →
    HaveOwnClass w.opened → IsFound w e x → (d : Class) → (class_of x.tid ≡ d → ⊥) →
    is_debtor (done_outcome w x heard air).world d x.station ≡ is_debtor w d x.station
debtor_ended w e x heard air kept own found d other =
    let s : ℕ = x.station in
    let b : Books = without (books w) x.number in
    let apart : class_number d ≡ class_number x.class → ⊥ =
    λ k. other (own_charge w e x own found ∙ sym (same_number d x.class k)) in
    let changed : Option Account =
    option_map (on_part x.class (charge_share (charge_of air x))) ((books w).accounts s) in
    debtor_is (done_outcome w x heard air).world d s
    ∙ ap (λ (z : Books). debts z d s) (books_ended air w x heard)
    ∙ ap (λ (o : Option Account). debt_of w.config o b.opened s d) (upd_same (books w).accounts s changed)
    ∙ other_share w.config ((books w).accounts s) b.opened s x.class d
    (charge_share (charge_of air x)) apart
    ∙ same_owed w.config ((books w).accounts s) b.opened (books w).opened s d
    (ap (λ (z : Books). owed s d z.opened) (sym (books_without w x.number))
    ∙ owed_core s d (without_exchange w x.number).opened
    ∙ owed_elsewhere w e x kept own found s d other
    ∙ sym (owed_core s d w.opened))
    ∙ sym (debtor_is w d s)

pub debtor_received : (w : World) (s : ℕ) (c : Class) (air : ℕ) (d : Class) → (d ≡ c → ⊥) →
    is_debtor (rx_outcome w s c air).world d s ≡ is_debtor w d s
debtor_received w s c air d other =
    let changed : Option Account = option_map (on_part c (receive_share air)) ((books w).accounts s) in
    debtor_is (rx_outcome w s c air).world d s
    ∙ ap (λ (z : Books). debts z d s) (books_received w s c air)
    ∙ ap (λ (o : Option Account). debt_of w.config o (books w).opened s d)
    (upd_same (books w).accounts s changed)
    ∙ other_share w.config ((books w).accounts s) (books w).opened s c d (receive_share air)
    (λ e. other (same_number d c e))
    ∙ sym (debtor_is w d s)

pub debtor_marked : (w : World) (e : ℕ) (x : Exchange) (unsent given_up : List ℕ) → IsKept (books w) →
    IsFound w e x → (d : Class) (s : ℕ) →
    is_debtor (marked_world w x unsent given_up) d s ≡ is_debtor w d s
debtor_marked w e x unsent given_up kept found d s =
    debtor_is (marked_world w x unsent given_up) d s
    ∙ ap (λ (b : Books). debts b d s) (books_marked w e x unsent given_up kept found)
    ∙ sym (debtor_is w d s)
