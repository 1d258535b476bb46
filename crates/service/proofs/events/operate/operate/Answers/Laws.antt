-- Operate, once no check applies: as its array is judged.
use Rattle.std.proofs.Common.{◌≡◌, ℕ, ◌%◌, ◌<◌, ◌≤◌, Bool, true, false, cond, ◌≢◌, ◌⊎◌, inl, inr, List, [], ◌∷◌, ◌++◌, length, take, ℤ, pos, negsuc, sym, refl, ap, ◌∙◌, ap₂, arith, length-append, length-take-le, take_all, drop_at}
use lib.Seq.{take-paste}
use Rattle.model.specs.declared.Copies.{Copies}
use Rattle.model.specs.declared.Engine.{Engine}
use Rattle.model.specs.declared.Outcome.{Outcome}
use Rattle.model.specs.declared.Outcome.TheVariants.{Done, Sleep, Again, Range}
use Rattle.model.specs.declared.Told.{Told}
use Rattle.model.specs.Limits.{semaphores, processes, all_semaphores}
use Rattle.model.specs.State.{Table, Sleeper, row, Wait}
use Rattle.model.specs.Look.{look, applied, values_of}
use Rattle.model.specs.Marks.{differing}
use Rattle.model.specs.Checks.{slot_of, check_operate}
use Rattle.model.specs.Judge.{code_of, decided_at, decider_of, Position}
use Rattle.model.specs.Waking.{waker}
use Rattle.model.specs.Clock.{at_once}
use Rattle.model.specs.Events.{Result, refused_at, call, would_sleep, operated, do_operate}
use Rattle.model.specs.Runs.{All, none, also}
use Rattle.model.specs.Invariant.{Good, Fits}
use Rattle.model.proofs.Lists.{all_append}
use Rattle.model.proofs.CheckLaws.{Operable, operate_passes}
use Rattle.model.proofs.QueueLaws.{distinct_snoc, fits_few}
use Rattle.model.proofs.LookLaws.{look_fine, applied_good, numbers_fit}
use Rattle.model.proofs.Positions.{position_small}
use Rattle.host.specs.Parts.{Row}
use Rattle.host.specs.Holding.{Host, host_of, with_queue, sets_in, time_in, queue_in, table_in, state_in, Held}
use Rattle.host.specs.Queue.{Room}
use Rattle.wakings.specs.Wakings.{Place, list_of}
use Rattle.service_table.specs.Numbered.{IsProcess, Numbered}
use Rattle.service_table.specs.Written.{tabled}
use Rattle.service_waking.specs.Lent.{Left, unwoken, Ready, JudgedAs, treated}
use Rattle.service_waking.proofs.LentLaws.{table_same}
use Rattle.service.specs.After.{telling_at, telling, after_of}
use Rattle.service.proofs.EventLaws.{state_with, held_invariant, host_of_lem, poised_lent, poised_ready, after_treated, goes_on}

-- the values that an applied array leaves
pub applied_values : (t : Table) (s : Sleeper) (c : Copies) → length t.values ≡ all_semaphores → s.slot < 4 → length c.values ≡ semaphores → values_of (applied t s c) s.slot ≡ c.values
unfolding values_of applied
applied_values t s c e h l =
    rw (take-paste t.values (row s.slot) c.values semaphores (omega arith) (omega arith))
    (drop_at (take (row s.slot) t.values) (take semaphores c.values) (row s.slot) (length-take-le (row s.slot) t.values (omega arith))
    ∙ take_all semaphores c.values (omega arith))

module _ (x : Host) (k : Held x) (p : ℕ) (i : ℤ) (wait : Wait) (bytes : List ℕ) (z : check_operate (state_in x) p i bytes ≡ 0) where
  abbrev made : Sleeper
  made = call (time_in x.row) p i wait bytes

  operable : Operable (state_in x) p i wait bytes
  operable = operate_passes (state_in x) p i wait bytes z

  pub call_fits : Fits (sets_in x.row) (made)
  call_fits = operable.fits

  pub call_process : IsProcess p
  call_process = record { least = call_fits.process; most = call_fits.last }

  pub call_numbered : Numbered bytes
  call_numbered = numbers_fit (held_invariant x k).counts (made) call_fits

  pub call_room : Room (made)
  call_room = record { process = call_fits.process; last = call_fits.last; short = call_fits.short }

  pub call_awake : All (λ (s : Sleeper). s.process ≢ p) (queue_in x.row)
  call_awake = operable.others

  -- there is a place for the caller in the queue
  pub call_few : length (queue_in x.row) < processes
  call_few =
      let few : length (queue_in x.row ++ made ∷ []) ≤ processes =
      fits_few (queue_in x.row ++ made ∷ []) (all_append (queue_in x.row) (made ∷ []) (held_invariant x k).fits (also call_fits none))
      (distinct_snoc (queue_in x.row) (made) (held_invariant x k).distinct operable.others) in
      omega (arith, few, length-append (queue_in x.row) (made ∷ []))

  module _ (engine : Engine) (o : Outcome) (n : ℕ) (c : Copies) (j : JudgedAs (table_in x) (made) o n c) where
    abbrev told_of_lem : Outcome → Result
    told_of_lem u = operated (waker engine) (state_in x) (made) u (decider_of (look (table_in x) (made))) (look (table_in x) (made)).copies

    -- what the definition says of the outcome
    does : {u : Outcome} → o ≡ u → after_of (told_of_lem u) ≡ after_of (do_operate (waker engine) (state_in x) p i wait bytes)
    unfolding do_operate
    does {u} e = ap (λ (y : Outcome). after_of (told_of_lem y)) (sym e ∙ j.outcome) ∙ ap after_of (goes_on (state_in x) _ z)

    -- the operation that it names is the one that was told
    named_is : decided_at o (n % 256) ≡ decider_of (look (table_in x) (made))
    named_is =
        let small : n % 256 ≡ n = omega (arith, j.position, position_small (table_in x) (made) call_fits) in
        ap (decided_at o) small ∙ ap₂ decided_at j.outcome j.position

    -- ---- done

    abbrev done_table : Table
    done_table = applied (table_in x) (made) (look (table_in x) (made)).copies

    good : Good (applied (table_in x) (made) (look (table_in x) (made)).copies)
    good = applied_good (table_in x) (made) (held_invariant x k).good call_fits _ (look_fine (table_in x) (made) (held_invariant x k).good call_fits)

    module _ (e : o ≡ Done) where
      done_is : applied (table_in x) (made) c ≡ applied (table_in x) (made) (look (table_in x) (made)).copies
      done_is = ap (applied (table_in x) (made)) (j.copies e)

      pub done_lent : {y : Host} {l : List Place} → y ≡ tabled x (applied (table_in x) (made) c) → l ≡ list_of []
          → record { host = y; wakings = l; woken = 0 } ≡ unwoken x (applied (table_in x) (made) (look (table_in x) (made)).copies) (queue_in x.row)
      done_lent ey el = poised_lent x k _ (ey ∙ ap (tabled x) done_is) el

      pub done_ready : Ready (unwoken x (applied (table_in x) (made) (look (table_in x) (made)).copies) (queue_in x.row))
      done_ready = poised_ready x k _ (queue_in x.row) good (held_invariant x k).fits (held_invariant x k).distinct

      -- touched are the values that the copies changed
      touched_is : {touched : ℕ} {before : List ℕ} → before ≡ values_of (table_in x) (slot_of i) → length c.values ≡ semaphores → touched ≡ differing 0 0 before c.values
          → touched ≡ differing 0 0 (values_of (table_in x) (slot_of i)) (values_of (applied (table_in x) (made) (look (table_in x) (made)).copies) (slot_of i))
      touched_is eb el et =
          et ∙ ap₂ (differing 0 0) eb (sym (applied_values (table_in x) (made) c (held_invariant x k).good.values call_fits.slot el)
          ∙ ap (λ (t : Table). values_of t (slot_of i)) done_is)

      pub done_after : {slot touched : ℕ} {before : List ℕ} {y : Left} {told : Told} → slot ≡ slot_of i → before ≡ values_of (table_in x) (slot_of i) → length c.values ≡ semaphores
          → y ≡ treated engine slot touched (unwoken x (applied (table_in x) (made) (look (table_in x) (made)).copies) (queue_in x.row)) 0
          → touched ≡ differing 0 0 before c.values
          → told ≡ telling (pos 0) 0 y.looks y.lent.woken
          → record { host = y.lent.host; wakings = y.lent.wakings; told = told } ≡ after_of (do_operate (waker engine) (state_in x) p i wait bytes)
      unfolding operated
      done_after es eb el ey et eu =
          after_treated x k _ (queue_in x.row) good (held_invariant x k).fits (held_invariant x k).distinct engine (slot_of i) _
          (ey ∙ ap₂ (λ (a b : ℕ). treated engine a b (unwoken x done_table (queue_in x.row)) 0) es (touched_is eb el et)) eu
          ∙ does e

    -- ---- refused by judging

    judged_after : (code : ℕ) {l : List Place} {told : Told} → l ≡ list_of [] → told ≡ telling_at (pos code) (decided_at o (n % 256)) 0 0 0
        → record { host = x; wakings = l; told = told } ≡ after_of (refused_at (state_in x) code (decider_of (look (table_in x) (made))))
    judged_after code el et =
        ap₂ (λ (l : List Place) (u : Told). record { host = x; wakings = l; told = u }) el (et ∙ ap (λ (d : Position). telling_at (pos code) d 0 0 0) named_is)
        ∙ ap (λ (y : Host). record { host = y; wakings = list_of []; told = telling_at (pos code) (decider_of (look (table_in x) (made))) 0 0 0 }) k.holds

    pub again_after : {l : List Place} {told : Told} → o ≡ Again → l ≡ list_of [] → told ≡ telling_at (code_of o) (decided_at o (n % 256)) 0 0 0
        → record { host = x; wakings = l; told = told } ≡ after_of (do_operate (waker engine) (state_in x) p i wait bytes)
    unfolding operated code_of
    again_after e el et = judged_after 11 el (et ∙ ap (λ (y : Outcome). telling_at (code_of y) (decided_at o (n % 256)) 0 0 0) e) ∙ does e

    -- a wait of 0 that would sleep
    at_once_after : {l : List Place} {told : Told} → o ≡ Sleep → at_once wait ≡ true → l ≡ list_of [] → told ≡ telling_at (pos 11) (decided_at o (n % 256)) 0 0 0
        → record { host = x; wakings = l; told = told } ≡ after_of (do_operate (waker engine) (state_in x) p i wait bytes)
    unfolding would_sleep operated
    at_once_after e w el et = judged_after 11 el et ∙ (rw w at (does e))

    pub range_after : {l : List Place} {told : Told} → o ≡ Range → l ≡ list_of [] → told ≡ telling_at (code_of o) (decided_at o (n % 256)) 0 0 0
        → record { host = x; wakings = l; told = told } ≡ after_of (do_operate (waker engine) (state_in x) p i wait bytes)
    unfolding operated code_of
    range_after e el et = judged_after 34 el (et ∙ ap (λ (y : Outcome). telling_at (code_of y) (decided_at o (n % 256)) 0 0 0) e) ∙ does e

    -- .. for either reason
    pub stopped_after : {l : List Place} {told : Told} → (o ≡ Again) ⊎ (o ≡ Range) → l ≡ list_of [] → told ≡ telling_at (code_of o) (decided_at o (n % 256)) 0 0 0
        → record { host = x; wakings = l; told = told } ≡ after_of (do_operate (waker engine) (state_in x) p i wait bytes)
    stopped_after (inl e) el et = again_after e el et
    stopped_after (inr e) el et = range_after e el et

    -- ---- asleep

    sleep_after : {r : Row} {l : List Place} {told : Told} → o ≡ Sleep → at_once wait ≡ false → r ≡ with_queue x.row (queue_in x.row ++ made ∷ []) → l ≡ list_of []
        → told ≡ telling_at (negsuc 0) (decided_at o (n % 256)) 0 0 0
        → record { host = record { row = r; adjustments = x.adjustments }; wakings = l; told = told } ≡ after_of (do_operate (waker engine) (state_in x) p i wait bytes)
    unfolding would_sleep operated code_of
    sleep_after {r} {l} {told} e w er el et =
        let longer : List Sleeper = queue_in x.row ++ made ∷ [] in
        let h =
        ap (λ (y : Row). record { row = y; adjustments = x.adjustments }) (er ∙ sym (table_same x.row x.adjustments longer)) ∙ host_of_lem x k (table_in x) longer in
        ap₂ (λ (y : Host) (w : List Place). record { host = y; wakings = w; told = told }) h el
        ∙ ap (λ (u : Told). record { host = host_of (state_with x (table_in x) longer); wakings = list_of []; told = u }) (et ∙ ap (λ (d : Position). telling_at (negsuc 0) d 0 0 0) named_is)
        ∙ rw w at (does e)

    -- either of the two, as its wait has it
    pub would_sleep_after : {r : Row} {l : List Place} {u : Outcome} {told : Told} → o ≡ Sleep → r ≡ cond (at_once wait) x.row (with_queue x.row (queue_in x.row ++ made ∷ []))
        → u ≡ cond (at_once wait) Again Sleep → l ≡ list_of [] → told ≡ telling_at (code_of u) (decided_at u (n % 256)) 0 0 0
        → record { host = record { row = r; adjustments = x.adjustments }; wakings = l; told = told } ≡ after_of (do_operate (waker engine) (state_in x) p i wait bytes)
    unfolding code_of decided_at
    would_sleep_after {r} {l} {u} {told} e er eu el et = go (at_once wait) refl er (et ∙ ap (λ (y : Outcome). telling_at (code_of y) (decided_at y (n % 256)) 0 0 0) eu)
      where
        -- it names the operation that a sleep names
        named : decided_at Sleep (n % 256) ≡ decided_at o (n % 256)
        named = sym (ap (λ (y : Outcome). decided_at y (n % 256)) e)

        go : (b : Bool) → at_once wait ≡ b → r ≡ cond b x.row (with_queue x.row (queue_in x.row ++ made ∷ [])) → told ≡ telling_at (code_of (cond b Again Sleep)) (decided_at (cond b Again Sleep) (n % 256)) 0 0 0
            → record { host = record { row = r; adjustments = x.adjustments }; wakings = l; told = told } ≡ after_of (do_operate (waker engine) (state_in x) p i wait bytes)
        go true w er et =
            ap (λ (y : Row). record { host = record { row = y; adjustments = x.adjustments }; wakings = l; told = told }) er
            ∙ at_once_after e w el (et ∙ ap (λ (d : Position). telling_at (pos 11) d 0 0 0) named)
        go false w er et = sleep_after e w er el (et ∙ ap (λ (d : Position). telling_at (negsuc 0) d 0 0 0) named)
