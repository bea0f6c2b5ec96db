-- What the calls on r axes do together, as theorems over what they promise: chains join, chains that name one order leave the same, a chain
-- run backwards restores the block, an order number means the same in every call, and a request leaves what the chain of its plan leaves, in
-- either release.
-- Each call has its own scratch, any that is enough by the call's own need, and what it holds afterwards each call's promise says by itself;
-- where one scratch is lent to all, what it holds is said too.
-- The words by the laws of layouts, the lengths by following the chain. A call on r axes reads the first r of the five lengths that came back.
use Rattle.lists.proofs.Kit.{◌≡◌, refl, sym, ap, ap₂, ◌∙◌, subst, List, [], ◌∷◌, ◌++◌, reverse, false, ⊎_elim, ℕ, ◌+◌, ◌<◌, ◌≤◌, max, le_refl, max-eq_left, arith, length, take, length-append, le-ltb, eq-or-ne}
use Rattle.layout.specs.Layout.{pick, Laid}
use Rattle.orders.specs.Chains.{follow, named}
use Rattle.orders.specs.Numbers.{order_count, order_of, number_of}
use Rattle.orders.specs.Releases.{order_by, number_by, LaidBy}
use Rattle.orders.specs.Plans.{plan_places}
use Rattle.orders.specs.Needs.{chain_need, plan_need}
use Rattle.orders.proofs.Chains.{pick-named, follow-append, follow_home, joined, length-follow}
use Rattle.orders.proofs.Layouts.{chain_joined, chain_home, chain_once}
use Rattle.orders.proofs.Numbers.{number_below, order_number}
use Rattle.orders.proofs.Needs.{need-append, need_back}
use Rattle.orders.proofs.PlanNeeds.{plan_least}
use Rattle.orders.proofs.Releases.{by_order, by_first}
use Rattle.orders.proofs.Goes.{laid_by}
use Rattle.refusals.specs.FirstOf.{Check, check, first_of, Silent}
use Rattle.refusals.specs.Conditions.{short_scratch, bad_swap, no_release}
use Rattle.refusals.specs.Calls.{chain_checks, request_checks, named_checks}
use Rattle.refusals.specs.Scratch.{cleared}
use Rattle.refusals.specs.Promise.{Rearranged}
use Rattle.refusals.proofs.FirstOf.{silent_zero}
use Rattle.refusals.proofs.Conditions.{no_order_false}
use Rattle.refusals.proofs.Scratch.{cleared-length, cleared_twice}
use Rattle.axes.specs.declared.Answer.{Answer}
use Rattle.plans.specs.declared.Planned.{Planned}
use Rattle.plans.specs.Promise.{PlanPromise}
use Rattle.axes.specs.Answers.{five_lengths, asked_for}
use Rattle.axes.specs.Promises.{ChainPromise, RequestPromise}
use Rattle.axes.proofs.Five.{first_of_five}
use Rattle.axes.proofs.Accepted.{ChainAccepted, accepts_chain, block_zero, chain_zero, next-accepted, joined-accepted, back_accepted, by_last, request_order}
use Rattle.axes.proofs.Calls.{request_of_chain, request_by}
use Rattle.axes.proofs.OneOutcome.{request_once}
use Rattle.axes.specs.Demands.{Joined, Alike, Restored, AlikeBy}

-- what an accepted chain leaves, as facts of the entry
module _ {r : ℕ} {ds c xs ss : List ℕ} {a : Answer} {ys ts : List ℕ} (axes : length ds ≡ r) (p : ChainPromise r ds c xs ss a ys ts) (z : a.number ≡ 0) where
  ran : ChainAccepted r ds xs ss c
  ran = accepts_chain r ds xs ss c (sym p.block.number_is ∙ z)

  laid_out : Laid ds (named r c) xs ys
  laid_out = p.block.words z

  five_lengths_lem : a.lengths ≡ five_lengths (follow ds c)
  five_lengths_lem = ap (λ (b : Answer). b.lengths) (p.given z) ∙ ap five_lengths (pick-named ds c axes)

  -- of these the first r are those of the shape that came back
  new_lengths : take r a.lengths ≡ follow ds c
  new_lengths = ap (take r) five_lengths_lem ∙ first_of_five (follow ds c) (length-follow ds c ∙ axes)

  as_many : length (take r a.lengths) ≡ r
  as_many = ap length new_lengths ∙ length-follow ds c ∙ axes

  new_order : order_of r a.order ≡ named r c
  new_order = ap (λ (b : Answer). order_of r b.order) (p.given z) ∙ order_number r c

  counted : a.swaps ≡ length c
  counted = ap (λ (b : Answer). b.swaps) (p.given z)

  as_long : length ts ≡ length ss
  as_long = ap length (p.block.zeroed z) ∙ cleared-length ss (le_refl (chain_need ds c)) ran.room

  -- what the caller of the joined chain must lend: the larger of both needs, each on the shape as it is called
  pub joined-need : (t : List ℕ) → chain_need ds (c ++ t) ≡ max (chain_need ds c) (chain_need (take r a.lengths) t)
  joined-need t = rw new_lengths (need-append ds c t)

  -- a chain run backwards on the shape that came back needs what the chain needs
  pub back_need : chain_need (take r a.lengths) (reverse c) ≡ chain_need ds c
  back_need = rw new_lengths (need_back ds c)

  -- scratch that the call left, lent to a second chain on the shape that came back, holds after both what the joined chain leaves of it
  scratch_on : (t : List ℕ) {us : List ℕ} → chain_need (take r a.lengths) t ≤ length ss → us ≡ cleared (chain_need (take r a.lengths) t) ts
      → us ≡ cleared (chain_need ds (c ++ t)) ss
  scratch_on t h e =
      e
      ∙ ap (cleared (chain_need (take r a.lengths) t)) (p.block.zeroed z)
      ∙ cleared_twice (chain_need (take r a.lengths) t) (chain_need ds c) ss h
      ∙ ap (λ (w : ℕ). cleared w ss) (sym (joined-need t))

  -- and lent to the chain run backwards it stays as it is
  scratch_back : {us : List ℕ} → us ≡ cleared (chain_need (take r a.lengths) (reverse c)) ts → us ≡ ts
  scratch_back e =
      let w = chain_need ds c in
      e
      ∙ ap₂ cleared back_need (p.block.zeroed z)
      ∙ cleared_twice w w ss ran.room
      ∙ ap (λ (v : ℕ). cleared v ss) (max-eq_left (le_refl w))
      ∙ sym (p.block.zeroed z)

-- where the first is accepted, the second has no bad swap, both have at most 32 swaps together, and each call has the scratch that it needs
module _ {r : ℕ} {ds s t xs ss ss₂ ss₃ : List ℕ} {a₁ a₂ a : Answer} {ys ts zs us ws vs : List ℕ} (axes : length ds ≡ r)
    (p : ChainPromise r ds s xs ss a₁ ys ts) (q : ChainPromise r (take r a₁.lengths) t ys ss₂ a₂ zs us) (j : ChainPromise r ds (s ++ t) xs ss₃ a ws vs)
    (e : a₁.number ≡ 0) (good : bad_swap r t ≡ false) (few : length (s ++ t) ≤ 32) (room₂ : chain_need (take r a₁.lengths) t ≤ length ss₂)
    (room₃ : chain_need ds (s ++ t) ≤ length ss₃) where
  second_accepted : a₂.number ≡ 0
  second_accepted =
      q.block.number_is
      ∙ ap (λ (l : List ℕ). first_of (chain_checks r l ys ss₂ t)) (new_lengths axes p e)
      ∙ chain_zero {xs = ys} {ss = ss₂} (next-accepted (ran axes p e) t good (omega (arith, length-append s t)) (laid_out axes p e).same
      (rw (new_lengths axes p e) at room₂))

  both_accepted : a.number ≡ 0
  both_accepted = j.block.number_is ∙ chain_zero {ss = ss₃} (joined-accepted (ran axes p e) t good few room₃)

  joined-laid : Laid ds (named r (s ++ t)) xs zs
  joined-laid =
      chain_joined ds axes s t (laid_out axes p e)
      (subst (λ (l : List ℕ). Laid l (named r t) ys zs) (new_lengths axes p e ∙ sym (pick-named ds s axes)) (q.block.words second_accepted))

  pub chains_join : Joined r a₁ a₂ a zs ws
  chains_join =
      let between = as_many axes p e in
      record {
        second = second_accepted;
        both = both_accepted;
        lengths = five_lengths_lem axes j both_accepted
            ∙ ap five_lengths (follow-append ds s t ∙ ap (λ (l : List ℕ). follow l t) (sym (new_lengths axes p e)))
            ∙ sym (five_lengths_lem between q second_accepted);
        order = new_order axes j both_accepted ∙ joined r s t ∙ ap₂ pick (sym (new_order between q second_accepted)) (sym (new_order axes p e));
        swaps = counted axes j both_accepted ∙ length-append s t ∙ ap₂ ◌+◌ (sym (counted axes p e)) (sym (counted between q second_accepted));
        words = chain_once ds axes (s ++ t) (laid_out axes j both_accepted) joined-laid;
      }

-- through one scratch, as long as the joined chain needs, that too holds afterwards what the joined chain leaves in it
module _ {r : ℕ} {ds s t xs ss : List ℕ} {a₁ a₂ a : Answer} {ys ts zs us ws vs : List ℕ} (axes : length ds ≡ r)
    (p : ChainPromise r ds s xs ss a₁ ys ts) (q : ChainPromise r (take r a₁.lengths) t ys ts a₂ zs us) (j : ChainPromise r ds (s ++ t) xs ss a ws vs)
    (e : a₁.number ≡ 0) (good : bad_swap r t ≡ false) (few : length (s ++ t) ≤ 32) (room : chain_need ds (s ++ t) ≤ length ss) where
  enough : chain_need (take r a₁.lengths) t ≤ length ss
  enough = omega (arith, joined-need axes p e t)

  pub chains_join_scratch : Joined r a₁ a₂ a zs ws × (vs ≡ us)
  chains_join_scratch =
      let both = chains_join axes p q j e good few (omega (arith, enough, as_long axes p e)) room in
      (both, j.block.zeroed both.both ∙ sym (scratch_on axes p e t enough (q.block.zeroed both.second)))

-- accepted chains that name one order leave the same; their swaps and their needs may differ, and with these the zeros in scratch
module _ {r : ℕ} {ds s t xs ss ss' : List ℕ} {a a' : Answer} {ys ts zs us : List ℕ} (axes : length ds ≡ r) (p : ChainPromise r ds s xs ss a ys ts)
    (q : ChainPromise r ds t xs ss' a' zs us) (e : a.number ≡ 0) (d : a'.number ≡ 0) (one : named r s ≡ named r t) where
  pub one_order : Alike a a' ys zs
  one_order = record {
    lengths = ap (λ (b : Answer). b.lengths) (q.given d) ∙ ap (λ (o : List ℕ). five_lengths (pick o ds)) (sym one) ∙ sym (ap (λ (b : Answer). b.lengths) (p.given e));
    order = ap (λ (b : Answer). b.order) (q.given d) ∙ ap (number_of r) (sym one) ∙ sym (ap (λ (b : Answer). b.order) (p.given e));
    words = chain_once ds axes t (laid_out axes q d) (subst (λ (o : List ℕ). Laid ds o xs ys) one (laid_out axes p e));
  }

module _ {r : ℕ} {ds c xs ss ss' : List ℕ} {a a' : Answer} {ys ts zs us : List ℕ} (axes : length ds ≡ r) (p : ChainPromise r ds c xs ss a ys ts)
    (q : ChainPromise r (take r a.lengths) (reverse c) ys ss' a' zs us) (e : a.number ≡ 0) (room : chain_need ds c ≤ length ss') where
  back_again : a'.number ≡ 0
  back_again =
      q.block.number_is
      ∙ ap (λ (l : List ℕ). first_of (chain_checks r l ys ss' (reverse c))) (new_lengths axes p e)
      ∙ chain_zero {xs = ys} {ss = ss'} (back_accepted (ran axes p e) (laid_out axes p e).same room)

  pub backwards : Restored ds xs a' zs
  backwards =
      let turned = as_many axes p e in
      record {
        accepts = back_again;
        lengths = five_lengths_lem turned q back_again ∙ ap five_lengths (ap (λ (l : List ℕ). follow l (reverse c)) (new_lengths axes p e) ∙ follow_home ds c);
        words = chain_once (take r a.lengths) turned (reverse c) (laid_out turned q back_again)
            (subst
            (λ (l : List ℕ). Laid l (named r (reverse c)) ys xs)
            (pick-named ds c axes ∙ sym (new_lengths axes p e))
            (chain_home ds axes c (laid_out axes p e)));
      }

-- through the scratch that the chain left, which is enough, that stays as it is
pub backwards_scratch : {r : ℕ} {ds c xs ss : List ℕ} {a a' : Answer} {ys ts zs us : List ℕ} → length ds ≡ r → ChainPromise r ds c xs ss a ys ts
    → ChainPromise r (take r a.lengths) (reverse c) ys ts a' zs us → a.number ≡ 0 → Restored ds xs a' zs × (us ≡ ts)
backwards_scratch axes p q e =
    let home = backwards axes p q e (omega (arith, as_long axes p e, (ran axes p e).room)) in
    (home, scratch_back axes p e (q.block.zeroed home.accepts))

-- an order that one call answers, asked for in another by the number that names it in either release, means the same layout
module _ {r : ℕ} {ds c xs ss ss' : List ℕ} {release k : ℕ} {a a' : Answer} {ys ts zs us : List ℕ} (axes : length ds ≡ r)
    (p : ChainPromise r ds c xs ss a ys ts) (q : RequestPromise r ds release k xs ss' a' zs us) (e : a.number ≡ 0) (known : no_release release ≡ false)
    (low : k < order_count r) (one : number_by r release k ≡ a.order) where
  the_order : order_by r release k ≡ named r c
  the_order = sym (by_order r k low release) ∙ ap (order_of r) one ∙ new_order axes p e

  -- scratch that was enough for the chain is enough for the request
  pub enough_by : plan_need r ds release k ≤ chain_need ds c
  enough_by = rw the_order (plan_least ds c axes)

  by_accepted : plan_need r ds release k ≤ length ss' → a'.number ≡ 0
  by_accepted room =
      let need = check 4 (short_scratch (plan_need r ds release k) ss') ∷ [] in
      let silent : Silent (named_checks r release k ++ need) =
      Silent.more known
      (Silent.more (no_order_false r k low) (Silent.more (le-ltb (length ss') (plan_need r ds release k) room) Silent.none)) in
      q.block.number_is ∙ by_last ds xs (named_checks r release k ++ need) (sym (block_zero (ran axes p e).block)) refl ∙ silent_zero silent

  pub one_meaning_by : plan_need r ds release k ≤ length ss' → AlikeBy r release a a' ys zs
  one_meaning_by room =
      let z = by_accepted room in
      record {
        accepts = z;
        lengths = ap (λ (b : Answer). b.lengths) (q.given z)
            ∙ ap (λ (o : List ℕ). five_lengths (pick o ds)) the_order
            ∙ sym (ap (λ (b : Answer). b.lengths) (p.given e));
        order = ap (λ (b : Answer). number_by r release b.order) (q.given z) ∙ one;
        words = chain_once ds axes c (subst (λ (o : List ℕ). Laid ds o xs zs) the_order (q.block.words z)) (laid_out axes p e);
      }

-- in release 1 it is the number that was answered
module _ {r : ℕ} {ds c xs ss ss' : List ℕ} {a a' : Answer} {ys ts zs us : List ℕ} (axes : length ds ≡ r) (p : ChainPromise r ds c xs ss a ys ts)
    (q : RequestPromise r ds 1 a.order xs ss' a' zs us) (e : a.number ≡ 0) where
  low : a.order < order_count r
  low = rw (ap (λ (b : Answer). b.order) (p.given e)) (number_below r c)

  pub enough_asked : plan_need r ds 1 a.order ≤ chain_need ds c
  enough_asked = enough_by axes p q e refl low (by_first r a.order low)

  pub one_meaning : plan_need r ds 1 a.order ≤ length ss' → (a'.number ≡ 0) × Alike a a' ys zs
  one_meaning room =
      let m = one_meaning_by axes p q e refl low (by_first r a.order low) room in
      (m.accepts, record { lengths = m.lengths; order = ap (λ (b : Answer). b.order) (q.given m.accepts); words = m.words })

-- what was promised through one scratch is promised through another, where the checks say the same of both
other_scratch : {checks checks' : List Check} {needed : ℕ} {Right : List ℕ → Type 0} {xs ss : List ℕ} (ss' : List ℕ) {n : ℕ} {ys ts : List ℕ}
    → first_of checks ≡ first_of checks' → Rearranged checks needed Right xs ss n ys ts → (us : List ℕ) × Rearranged checks' needed Right xs ss' n ys us
other_scratch {needed = needed} ss' {n = n} same p =
    ⊎_elim
    (λ (e : n ≡ 0). (
      cleared needed ss',
      record { number_is = p.number_is ∙ same; words = p.words; zeroed = λ _. refl; kept = λ k. absurd (k e) },
    ))
    (λ (k : n ≡ 0 → ⊥). (
      ss',
      record { number_is = p.number_is ∙ same; words = p.words; zeroed = λ e. absurd (k e); kept = λ _. ((p.kept k).0, refl) },
    ))
    (eq-or-ne n 0)

-- two requests of one number, each through its own scratch, both enough
request_words : {r : ℕ} {ds xs ss ss' : List ℕ} {release k : ℕ} {a a' : Answer} {ys ts zs us : List ℕ} → length ds ≡ r
    → RequestPromise r ds release k xs ss a ys ts → RequestPromise r ds release k xs ss' a' zs us → plan_need r ds release k ≤ length ss
    → plan_need r ds release k ≤ length ss' → (a ≡ a') × (ys ≡ zs)
request_words {r} {ds} {xs} {ss} {ss'} {release} {k} axes q d h h' =
    let same : first_of (request_checks r ds xs ss' release k) ≡ first_of (request_checks r ds xs ss release k) =
    rw (le-ltb (length ss) (plan_need r ds release k) h, le-ltb (length ss') (plan_need r ds release k) h') in
    let (vs, block) = other_scratch ss same d.block in
    let one = request_once axes q (record { block = block; given = d.given; refusal = d.refusal }) in
    (one.0, one.1)

-- a request of a number leaves exactly what the chain of its plan leaves, answer and both slices, refused or not, where no plan is longer
-- than a chain may be
module _ {r : ℕ} {ds xs ss : List ℕ} {k : ℕ} {plan : Planned} {a a' : Answer} {ys ts zs us : List ℕ} (axes : length ds ≡ r)
    (few : plan_places r ≤ 32) (p : PlanPromise r k plan) (z : plan.number ≡ 0) (q : RequestPromise r ds 1 k xs ss a ys ts) where
  pub plan_leaves : ChainPromise r ds (take plan.count plan.swaps) xs ss a' zs us → (a ≡ a') × (ys ≡ zs) × (ts ≡ us)
  plan_leaves c = request_once axes q (request_of_chain few p z c)

-- the words of a request are what its number says by its release: in release 2 each axis has gone where the order of the number says
pub said : {r : ℕ} {ds xs ss : List ℕ} {release k : ℕ} {a : Answer} {ys ts : List ℕ} → length ds ≡ r → RequestPromise r ds release k xs ss a ys ts
    → a.number ≡ 0 → LaidBy r release k ds xs ys
said {r} {ds} {xs} {ss} {release} {k} axes q e =
    (laid_by r k (request_order r ds xs ss release k (sym q.block.number_is ∙ e)) release axes).1 (q.block.words e)

-- either release: a request leaves what the request for the release 1 number of its order leaves, and what the chain of that order's plan leaves;
-- all but the number in the answer, which is the one that was asked for
module _ {r : ℕ} {ds xs ss : List ℕ} (release : ℕ) {k : ℕ} {a a' : Answer} {ys ts zs us : List ℕ} (axes : length ds ≡ r)
    (known : no_release release ≡ false) (low : k < order_count r) (q : RequestPromise r ds release k xs ss a ys ts) where
  pub releases_agree : RequestPromise r ds 1 (number_by r release k) xs ss a' zs us → (a ≡ asked_for k a') × (ys ≡ zs) × (ts ≡ us)
  releases_agree p = request_once axes q (request_by r release k known low p)

  module _ {plan : Planned} (few : plan_places r ≤ 32) (p : PlanPromise r (number_by r release k) plan) (z : plan.number ≡ 0) where
    pub plan_leaves_by : ChainPromise r ds (take plan.count plan.swaps) xs ss a' zs us → (a ≡ asked_for k a') × (ys ≡ zs) × (ts ≡ us)
    plan_leaves_by c = releases_agree (request_of_chain few p z c)

    pub plan_leaves_words_by : {ss' : List ℕ} → ChainPromise r ds (take plan.count plan.swaps) xs ss' a' zs us
        → plan_need r ds release k ≤ length ss → plan_need r ds release k ≤ length ss' → (a ≡ asked_for k a') × (ys ≡ zs)
    plan_leaves_words_by c h h' = request_words axes q (request_by r release k known low (request_of_chain few p z c)) h h'
