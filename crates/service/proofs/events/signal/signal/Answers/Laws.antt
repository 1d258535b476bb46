-- Signal, once no check applies.
use Rattle.std.proofs.Common.{◌≡◌, ℕ, Bool, true, false, ◌||◌, eqb, ◌≢◌, List, [], ◌∷◌, length, set, ℤ, pos, sym, refl, ap, ◌∙◌, ap₂, arith, ne_eqb, eqb-true}
use Rattle.model.specs.declared.Told.{Told}
use Rattle.model.specs.declared.Waking.{Waking}
use Rattle.model.specs.State.{Sleeper}
use Rattle.model.specs.Checks.{asleep, check_process}
use Rattle.model.specs.Waking.{waking}
use Rattle.model.specs.Events.{keep, ended_with, is_of, do_signal, not_of}
use Rattle.model.specs.Runs.{All, none, also}
use Rattle.model.specs.Invariant.{Distinct, apart}
use Rattle.model.proofs.QueueLaws.{awake}
use Rattle.host.specs.Parts.{Row}
use Rattle.host.specs.Holding.{Host, with_queue, host_of, queue_in, table_in, state_in, Held}
use Rattle.wakings.specs.Wakings.{Place, place_of, list_of}
use Rattle.wakings.proofs.ListLaws.{noted}
use Rattle.service_waking.proofs.LentLaws.{table_same}
use Rattle.service.specs.After.{telling, after_of}
use Rattle.service.proofs.EventLaws.{state_with, held_invariant, host_of_lem, goes_on}
use Rattle.std.specs.Prelude.{None}

module _ (p : ℕ) (code : ℤ) where
  ended_awake : (q : List Sleeper) → All (λ (s : Sleeper). s.process ≢ p) q → ended_with code (is_of p) q ≡ []
  unfolding ended_with
  ended_awake [] none = refl
  ended_awake (s ∷ q) (also h t) = rw (ne_eqb s.process p h) (ended_awake q t)

  -- the one sleeper of a process is ended
  ended_one : (q : List Sleeper) → Distinct q → asleep p q ≡ true → ended_with code (is_of p) q ≡ waking p code None ∷ []
  unfolding ended_with asleep
  ended_one [] d e = let z : ◌≡◌ {A = ℕ} 0 1 = cc in absurd (omega arith)
  ended_one (s ∷ q) (apart o d) e = go (eqb s.process p) refl e (ended_one q d)
    where
      go : (b : Bool) → eqb s.process p ≡ b → (b || asleep p q) ≡ true → (asleep p q ≡ true → ended_with code (is_of p) q ≡ waking p code None ∷ []) → ended_with code (is_of p) (s ∷ q) ≡ waking p code None ∷ []
      go true t e more =
          let n : s.process ≡ p = eqb-true s.process p t in
          rw (ended_with, t, n) (ap (λ (r : List Waking). waking p code None ∷ r) (ended_awake q (rw n at o)))
      go false t e more = rw (ended_with, t) (more e)

module _ (x : Host) (k : Held x) (p : ℕ) (z : check_process p ≡ 0) where
  abbrev rest : List Sleeper
  rest = keep (not_of p) (queue_in x.row)

  without_it : {r : Row} → r ≡ with_queue x.row (keep (not_of p) (queue_in x.row))
      → record { row = r; adjustments = x.adjustments } ≡ host_of (state_with x (table_in x) (keep (not_of p) (queue_in x.row)))
  without_it er = ap (λ (y : Row). record { row = y; adjustments = x.adjustments }) (er ∙ sym (table_same x.row x.adjustments rest)) ∙ host_of_lem x k (table_in x) rest

  signalled : (w : List Waking) {r : Row} {l : List Place} {told : Told} → ended_with (pos 4) (is_of p) (queue_in x.row) ≡ w → r ≡ with_queue x.row (keep (not_of p) (queue_in x.row))
      → l ≡ list_of w → told ≡ telling (pos 0) 0 0 (length w) → record { host = record { row = r; adjustments = x.adjustments }; wakings = l; told = told } ≡ after_of (do_signal (state_in x) p)
  unfolding do_signal
  signalled w {r} {l} {told} ew er el et =
      ap₂ (λ (y : Host) (a : List Place). record { host = y; wakings = a; told = told }) (without_it er) el
      ∙ ap (λ (u : Told). record { host = host_of (state_with x (table_in x) rest); wakings = list_of w; told = u }) et
      ∙ ap (λ (a : List Waking). record { host = host_of (state_with x (table_in x) rest); wakings = list_of a; told = telling (pos 0) 0 0 (length a) }) (sym ew)
      ∙ ap after_of (goes_on (state_in x) _ z)

  pub signal_awake : {r : Row} {l : List Place} {told : Told} → asleep p (queue_in x.row) ≡ false → r ≡ with_queue x.row (keep (not_of p) (queue_in x.row))
      → l ≡ list_of [] → told ≡ telling (pos 0) 0 0 0 → record { host = record { row = r; adjustments = x.adjustments }; wakings = l; told = told } ≡ after_of (do_signal (state_in x) p)
  signal_awake e er el et = signalled [] (ended_awake p (pos 4) (queue_in x.row) (awake p (queue_in x.row) e)) er el et

  pub signal_asleep : {r : Row} {l m : List Place} {told : Told} → asleep p (queue_in x.row) ≡ true → r ≡ with_queue x.row (keep (not_of p) (queue_in x.row))
      → l ≡ list_of [] → m ≡ set l 0 (place_of (waking p (pos 4) None)) → told ≡ telling (pos 0) 0 0 1 → record { host = record { row = r; adjustments = x.adjustments }; wakings = m; told = told } ≡ after_of (do_signal (state_in x) p)
  signal_asleep e er el em et =
      signalled (waking p (pos 4) None ∷ []) (ended_one p (pos 4) (queue_in x.row) (held_invariant x k).distinct e) er
      (em ∙ ap (λ (a : List Place). set a 0 (place_of (waking p (pos 4) None))) el ∙ noted [] (waking p (pos 4) None) (omega arith)) et
