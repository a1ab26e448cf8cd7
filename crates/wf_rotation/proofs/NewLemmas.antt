-- New links represent empty lists, since every head is past the keys.
use Rattle.std.proofs.Common.{◌≡◌, ℕ, zero, suc, ◌+◌, ◌*◌, ◌<◌, ◌≤◌, List, [], length, replicate, get_or, refl, sym, ap, ◌∙◌, arith}
use Rattle.std.proofs.lemmas.List.{get_or-replicate, length-replicate, ext_get_or}
use Rattle.std.proofs.lemmas.Bool.{le-ltb}
use Rattle.wf_def_rotation.specs.Rotation.{no_keys}
use Rattle.wf_def_lists.specs.Lists.{on}
use Rattle.wf_rotation.specs.Links.{entry_at, walk, Leads, EndsWith, chain, AreLinks, chain_lists, all_chains}
use Rattle.wf_law_rules.proofs.Lemmas.Counts.{on-nil}
use Rattle.wf_rotation.proofs.LinkLemmas.{at_chain, length-all_chains}

walk-end : (n : ℕ) (next : List ℕ) (from : ℕ) → length next ≤ from → walk n next from ≡ []
unfolding walk
walk-end zero next from past = refl
walk-end (suc n) next from past = rw (le-ltb from (length next) past)

module _ (next heads tails : List ℕ) (keys lists : ℕ) (next_is : next ≡ replicate keys keys)
    (heads_is : heads ≡ replicate (2 * lists) keys) (tails_is : tails ≡ replicate (2 * lists) keys) where
  no_head : (slot : ℕ) → slot < 2 * lists → entry_at heads slot ≡ keys
  no_head slot low = rw heads_is (get_or-replicate (2 * lists) slot keys 0 low)

  size : length next ≡ keys
  size = rw next_is (length-replicate keys keys)

  no_chain : (slot : ℕ) → slot < 2 * lists → chain next heads slot ≡ []
  no_chain slot low = walk-end (length next) next (entry_at heads slot)
      (omega (arith, size, no_head slot low))

  leads_none : (slot : ℕ) → slot < 2 * lists → Leads next (entry_at heads slot) []
  unfolding Leads
  leads_none slot low = omega (arith, size, no_head slot low)

  ends_none : (slot : ℕ) → EndsWith [] (entry_at tails slot)
  unfolding EndsWith
  ends_none slot = tt

  pub none_linked : AreLinks next heads tails lists
  none_linked = record {
    heads_there = rw heads_is (length-replicate (2 * lists) keys);
    tails_there = rw tails_is (length-replicate (2 * lists) keys);
    chains = record {
      leads = λ slot low. rw (no_chain slot low) (leads_none slot low);
      ends = λ slot low. rw (no_chain slot low) (ends_none slot);
      once = λ slot key low. rw (no_chain slot low) (omega (arith, on-nil key));
      apart = λ slot other key low low_too here there.
          absurd (omega (arith, ap (λ (xs : List ℕ). on xs key) (no_chain slot low), on-nil key));
    };
  }

  empty : (l : ℕ) → l < lists → chain_lists next heads l ≡ no_keys
  empty l low = rw (no_chain (2 * l) (omega arith), no_chain (2 * l + 1) (omega arith)) refl

  pub none_listed : all_chains next heads lists ≡ replicate lists no_keys
  none_listed = ext_get_or no_keys (all_chains next heads lists) (replicate lists no_keys)
      (length-all_chains next heads lists ∙ sym (length-replicate lists no_keys))
      (λ l within. each l (omega (arith, length-all_chains next heads lists)))
    where
      each : (l : ℕ) → l < lists → get_or (all_chains next heads lists) l no_keys
          ≡ get_or (replicate lists no_keys) l no_keys
      each l low = at_chain next heads lists l low ∙ empty l low
          ∙ sym (get_or-replicate lists l no_keys no_keys low)
