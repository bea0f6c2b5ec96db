-- Stops of which the order of stages alone is kept are made good: a stage would store the same words again whatever stands at its own places, and then
-- overwrites all of them. A call that its budget stops is such a stop.
use Rattle.lists.proofs.Kit.{◌≡◌, refl, sym, ap, ap₂, ◌∙◌, subst, List, [], ◌∷◌, ◌++◌, ⊎_elim, ℕ, suc, ◌+◌, ◌-◌, ◌<◌, ◌≤◌, arith, length, length-append, lt-or-ge}
use Rattle.stages.specs.Stages.{Memory, Store, after, Stages, words_now, stage, remaining, call, finish}
use Rattle.stages.specs.Stages.Store.{to_progress}
use Rattle.stages.specs.Stops.{Torn, Stop, Stops}
use Rattle.stages.specs.Stops.Stop.{still, within, whole}
use Rattle.stages.specs.Stops.Stops.{never, again}
use Rattle.stages.proofs.Stores.{after-append, after_long}
use Rattle.stages.proofs.Torn.{overwritten, first_torn, Steady}
use Rattle.stages.proofs.Calls.{counted, remaining_more, finish-stage, call_done, call-part, call-stage, call_enough, by_stages}

-- from x, finishing leaves what it leaves from m, and takes no more stores
pub record Resumed (s : Stages) (m x : Memory) : Type 0 where
  pub ends : finish s x ≡ finish s m
  pub fewer : length (remaining s x) ≤ length (remaining s m)

module _ {s : Stages} (steady : Steady s) where
  -- a torn stage is stored again whole
  torn_resumed : (m x : Memory) → m.progress < s.total → Torn (words_now s m) m x → Resumed s m x
  unfolding stage
  torn_resumed m x h t =
      let h' : x.progress < s.total = rw t.uncounted h in
      let count : List Store = to_progress (suc m.progress) ∷ [] in
      let w : words_now s x ≡ words_now s m = ap (λ (k : ℕ). s.words k x) t.uncounted ∙ steady.same m.progress m x t in
      let e : stage s x ≡ stage s m = ap₂ (λ (l : List Store) (k : ℕ). l ++ to_progress (suc k) ∷ []) w t.uncounted in
      let y : after (stage s m) x ≡ after (stage s m) m =
      after-append (words_now s m) count x ∙ ap (after count) (overwritten (words_now s m) m x t) ∙ sym (after-append (words_now s m) count m) in
      let r : remaining s x ≡ remaining s m =
      remaining_more s x h' ∙ ap (λ (l : List Store). l ++ remaining s (after l x)) e ∙ ap (λ (z : Memory). stage s m ++ remaining s z) y ∙ sym (remaining_more s m h) in
      record {
        ends = finish-stage s x h' ∙ ap (λ (l : List Store). finish s (after l x)) e ∙ ap (finish s) y ∙ sym (finish-stage s m h);
        fewer = rw r (omega arith);
      }

  pub stop_resumed : {m x : Memory} → Stop s m x → Resumed s m x
  stop_resumed still = record { ends = refl; fewer = omega arith }
  stop_resumed {m} {x} (within h t) = torn_resumed m x h t
  stop_resumed {m} (whole h r) =
      let i = stop_resumed r in
      record {
        ends = i.ends ∙ sym (finish-stage s m h);
        fewer = rw (remaining_more s m h, length-append (stage s m) (remaining s (after (stage s m) m))) (omega (arith, i.fewer));
      }

  -- after any such stops finishing leaves what it leaves from the first start, and takes no more stores
  pub stops_resumed : {m x : Memory} → Stops s m x → Resumed s m x
  stops_resumed never = record { ends = refl; fewer = omega arith }
  stops_resumed (again p r) =
      let i = stops_resumed r in
      let j = stop_resumed p in
      record { ends = i.ends ∙ j.ends; fewer = omega (arith, i.fewer, j.fewer) }

  -- so a call whose budget is enough for what then remains leaves what an uncut call leaves from the first start
  pub restart_from : {m x : Memory} (b : ℕ) → Stops s m x → length (remaining s x) ≤ b → call s b x ≡ finish s m
  restart_from {x = x} b r h = call_enough s b x h ∙ (stops_resumed r).ends

  -- a call that its budget stops is such a stop
  pub call_stop : (m : Memory) (b : ℕ) → Stop s m (call s b m)
  call_stop =
      by_stages s (λ m. (b : ℕ) → Stop s m (call s b m))
      (λ m h b. subst (Stop s m) (sym (call_done s b m h)) still)
      (λ m h ih b. ⊎_elim
      (λ (k : length (words_now s m) < b). subst (Stop s m) (sym (call-stage s b m h k)) (whole h (ih (b - (length (words_now s m) + 1)))))
      (λ (k : b ≤ length (words_now s m)). subst (Stop s m) (sym (call-part s b m h k)) (within h (first_torn (words_now s m) m b (steady.keeps m.progress m b))))
      (lt-or-ge (length (words_now s m)) b))

-- stops count no more stages than there are
pub stop_within : {s : Stages} {m x : Memory} → Stop s m x → m.progress ≤ s.total → x.progress ≤ s.total
stop_within still k = k
stop_within (within h t) k = omega (arith, t.uncounted)
stop_within {s} {m} (whole h r) k = stop_within r (omega (arith, counted s m))

pub stops_within : {s : Stages} {m x : Memory} → Stops s m x → m.progress ≤ s.total → x.progress ≤ s.total
stops_within never k = k
stops_within (again p r) k = stops_within r (stop_within p k)

-- and change no length
stop_long : {s : Stages} {m x : Memory} → Stop s m x → (length x.buffer ≡ length m.buffer) × (length x.scratch ≡ length m.scratch)
stop_long still = (refl, refl)
stop_long (within h t) = (t.buffer_long, t.scratch_long)
stop_long {s} {m} (whole h r) =
    let i = stop_long r in
    let j = after_long (stage s m) m in
    (i.0 ∙ j.0, i.1 ∙ j.1)

pub stops_long : {s : Stages} {m x : Memory} → Stops s m x → (length x.buffer ≡ length m.buffer) × (length x.scratch ≡ length m.scratch)
stops_long never = (refl, refl)
stops_long (again p r) =
    let i = stops_long r in
    let j = stop_long p in
    (i.0 ∙ j.0, i.1 ∙ j.1)
