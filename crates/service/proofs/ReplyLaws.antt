-- A query and a reading change nothing: what they show, with the host and no wakings, is their reply.
use Rattle.std.proofs.Common.{◌≡◌, ℕ, zero, suc, ◌*◌, ◌≤◌, List, [], length, take, ℤ, sym, refl, ap, ◌∙◌, ap₂, arith, take_at}
use lib.Seq.{sets, sets-eq}
use Rattle.model.specs.declared.Queried.{Queried}
use Rattle.model.specs.declared.Reading.{Reading}
use Rattle.model.specs.declared.Reply.TheVariants as reply
use Rattle.model.specs.Limits.{semaphores}
use Rattle.model.specs.State.{State}
use Rattle.model.specs.Checks.{check_query, check_read_all}
use Rattle.model.specs.Events.{query, read_all, Read, Result, numbers_of, checked, do_query, do_read_all}
use Rattle.host.specs.Holding.{Host, host_of, state_in, Held}
use Rattle.wakings.specs.Wakings.{Place, list_of}
use Rattle.service.specs.After.{queried_of, reading_of, read_out, read_in, replied_of}
use Rattle.service.proofs.ReadLaws.{length_numbers, few_all}

-- what changes nothing
module _ (s : State) (does : Result) where
  state_kept : (code : ℕ) → does.state ≡ s → (checked code s does).state ≡ s
  state_kept zero e = e
  state_kept (suc c) e = refl

  none_woken : (code : ℕ) → does.wakings ≡ [] → (checked code s does).wakings ≡ []
  none_woken zero e = e
  none_woken (suc c) e = refl

pub seen : (x : Host) → Held x → (p : ℕ) (i : ℤ) (n : ℕ) {l : List Place} {q : Queried} → l ≡ list_of [] → q ≡ queried_of (do_query (state_in x) p i n)
    → record { host = x; wakings = l; reply = reply.Seen q; read = [] } ≡ replied_of (query p i n) (do_query (state_in x) p i n)
unfolding do_query
seen x k p i n {l} {q} el eq =
    let code : ℕ = check_query (state_in x) p i n in
    let s : host_of (do_query (state_in x) p i n).state ≡ x = ap host_of (state_kept (state_in x) _ code refl) ∙ sym k.holds in
    let w : list_of (do_query (state_in x) p i n).wakings ≡ list_of [] = ap list_of (none_woken (state_in x) _ code refl) in
    ap₂ (λ (h : Host) (m : List Place). record { host = h; wakings = m; reply = reply.Seen q; read = [] }) (sym s) (el ∙ sym w)
    ∙ ap (λ (u : Queried). record { host = host_of (do_query (state_in x) p i n).state; wakings = list_of (do_query (state_in x) p i n).wakings; reply = reply.Seen u; read = [] }) eq

-- ---- a reading

-- the numbers that were written are read back
read_back : (numbers ns : List ℕ) (n : ℕ) → length ns ≡ n → n ≤ length numbers → take n (sets numbers 0 ns) ≡ ns
read_back numbers ns n e h = ap (take n) (sets-eq ns numbers 0 (omega arith)) ∙ take_at ns _ n e

module _ (x : Host) (k : Held x) (p : ℕ) (i : ℤ) (lent : List ℕ) (long : length lent ≡ 3 * semaphores) {q : Reading} {left : List ℕ} (e : (q, left) ≡ read_out lent (do_read_all (state_in x) p i)) where
  pub left_is : left ≡ sets lent 0 (numbers_of (do_read_all (state_in x) p i).answer.all)
  left_is = ap (λ (both : Reading × List ℕ). both.1) e

  pub read : {l : List Place} → l ≡ list_of []
      → record { host = x; wakings = l; reply = reply.Read q; read = read_in left (reply.Read q) } ≡ replied_of (read_all p i) (do_read_all (state_in x) p i)
  unfolding do_read_all
  read {l} el =
      let code : ℕ = check_read_all (state_in x) p i in
      let r = do_read_all (state_in x) p i in
      let s : host_of r.state ≡ x = ap host_of (state_kept (state_in x) _ code refl) ∙ sym k.holds in
      let w : list_of r.wakings ≡ list_of [] = ap list_of (none_woken (state_in x) _ code refl) in
      let all : List Read = r.answer.all in
      let back : take (3 * length all) left ≡ numbers_of all = ap (take (3 * length all)) left_is ∙ read_back lent (numbers_of all) (3 * length all) (length_numbers all) (omega (arith, long, few_all x k p i)) in
      ap₂ (λ (h : Host) (m : List Place). record { host = h; wakings = m; reply = reply.Read q; read = take (3 * q.count) left }) (sym s) (el ∙ sym w)
      ∙ ap (λ (u : Reading). record { host = host_of r.state; wakings = list_of r.wakings; reply = reply.Read u; read = take (3 * u.count) left }) (ap (λ (both : Reading × List ℕ). both.0) e)
      ∙ ap (λ (ns : List ℕ). record { host = host_of r.state; wakings = list_of r.wakings; reply = reply.Read (reading_of r); read = ns }) back
