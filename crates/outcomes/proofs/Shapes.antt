-- The shapes that promises have, as cases of the tables. Most have one: a number that is the first of the checks; where it is 0, an answer and the right words;
-- where it is not, a refusal and all as it was. A call's case names its promise, and shows that it has the shape. What is right where nothing is refused is
-- computed only there.
use Rattle.lists.proofs.Kit.{◌≡◌, refl, ap, subst, ◌∙◌, Bool, true, not, ◌&&◌, List, [], ℕ, zero, suc, arith, T, ltb, nltb→le, length, same, both_left, both_right, same→eq}
use Rattle.layout.specs.Layout.{volume, Laid, laid}
use Rattle.orders.specs.Chains.{named}
use Rattle.orders.proofs.Layouts.{chain_once, chain_laid}
use Rattle.refusals.specs.FirstOf.{Check, first_of}
use Rattle.refusals.specs.Scratch.{cleared}
use Rattle.refusals.specs.Promise.{Changed, Rearranged}
use Rattle.outcomes.specs.Wrong.{Case}
use Rattle.outcomes.proofs.Tested.{Tested}

-- what a call answers, and what it leaves in a lent buffer and in lent scratch
pub record Block (A : Type 0) : Type 0 where
  pub answer : A
  pub buffer : List ℕ
  pub scratch : List ℕ

abbrev pub buffer : {A : Type 0} → Block A → List ℕ
buffer o = o.buffer

abbrev pub scratch : {A : Type 0} → Block A → List ℕ
scratch o = o.scratch

-- what a call answers, and what it leaves in the one slice that it is lent to change
pub record Slice (A : Type 0) : Type 0 where
  pub answer : A
  pub words : List ℕ

abbrev pub words : {A : Type 0} → Slice A → List ℕ
words o = o.words

-- a value: the promise is an equation with it
abbrev pub value : {A : Type 0} → (A → ℕ) → A → Case A
value number v = record { Promise = λ o. o ≡ v; checks = []; number = number; right = v; seen = true; only = λ t o p. p }

-- the number of the first check that holds
abbrev pub numbered : List Check → Case ℕ
numbered cs = record { Promise = λ n. n ≡ first_of cs; checks = cs; number = λ n. n; right = first_of cs; seen = true; only = λ t o p. p }

-- by a number: the one thing where it is 0, another for each other number
abbrev pub by_number : {A : Type 0} → (Unit {0} → A) → (ℕ → A) → ℕ → A
by_number given refusal zero = given tt
by_number given refusal (suc k) = refusal (suc k)

-- What is right of a slice where none of the checks holds: the relation; the words that meet it; and a test that they, and no others, do.
pub record Target (checks : List Check) : Type 1 where
  pub Right : List ℕ → Type 0
  pub right : Unit {0} → List ℕ
  pub test : Unit {0} → Bool
  pub one : first_of checks ≡ 0 → T (test tt) → (ys : List ℕ) → Right ys → ys ≡ right tt

-- one list
abbrev pub exactly : {checks : List Check} → (Unit {0} → List ℕ) → Target checks
exactly f = record { Right = λ ys. ys ≡ f tt; right = f; test = λ _. true; one = λ e t ys r. r }

-- the layout under an order that a chain of swaps names, of a block that lies in the buffer
abbrev pub lays : List ℕ → List ℕ → List ℕ → List ℕ → Bool
lays ds o chain xs = same (named (length ds) chain) o && not (ltb (length xs) (volume ds))

pub laid_only : (ds o chain xs : List ℕ) → T (lays ds o chain xs) → (ys : List ℕ) → Laid ds o xs ys → ys ≡ laid ds o xs
laid_only ds o chain xs t ys =
    let fits = nltb→le (length xs) (volume ds) (both_right (same (named (length ds) chain) o) _ t) in
    subst (λ (order : List ℕ). Laid ds order xs ys → ys ≡ laid ds order xs) (same→eq (named (length ds) chain) o (both_left (same (named (length ds) chain) o) _ t))
    (λ l. chain_once ds refl chain l (chain_laid ds refl chain xs fits))

abbrev pub laid_out : {checks : List Check} → List ℕ → List ℕ → List ℕ → List ℕ → Target checks
laid_out ds o chain xs =
    record { Right = Laid ds o xs; right = λ _. laid ds o xs; test = λ _. lays ds o chain xs; one = λ e. laid_only ds o chain xs }

-- words that a table gives, seen to be right, where two that are right are one
abbrev pub seen_right : {checks : List Check} (Right : List ℕ → Type 0) (ys : List ℕ) → (Unit {0} → Tested (Right ys))
    → (first_of checks ≡ 0 → (zs : List ℕ) → Right zs → Right ys → zs ≡ ys) → Target checks
seen_right Right ys seen one = record { Right = Right; right = λ _. ys; test = λ _. (seen tt).passes; one = λ e t zs r. one e zs r ((seen tt).sound t) }

-- a slice that is right where the number is 0, and elsewhere as it was
module _ {checks : List Check} (target : Target checks) (old : List ℕ) where
  abbrev pub passing : ℕ → Bool
  passing n = by_number target.test (λ k. true) n

  abbrev pub left : ℕ → List ℕ
  left n = by_number target.right (λ k. old) n

  pub words_only : {k : ℕ} {ys : List ℕ} → k ≡ first_of checks → (k ≡ 0 → target.Right ys) → ((k ≡ 0 → ⊥) → ys ≡ old)
      → T (passing (first_of checks)) → ys ≡ left (first_of checks)
  words_only {k} {ys} e right kept t = go (first_of checks) refl t
    where
      go : (n : ℕ) → first_of checks ≡ n → T (passing n) → ys ≡ left n
      go zero z t = target.one z t ys (right (e ∙ z))
      go (suc j) z t = kept (λ y. omega (arith, e ∙ z))

-- What is answered: its number, the answer where that is 0, the refusal elsewhere.
module _ {A : Type 0} (number : A → ℕ) (given : Unit {0} → A) (refusal : ℕ → A) where
  pub record Answered (checks : List Check) (a : A) : Type 0 where
    pub number_is : number a ≡ first_of checks
    pub gives : number a ≡ 0 → a ≡ given tt
    pub refuses : (number a ≡ 0 → ⊥) → a ≡ refusal (number a)

  pub answer_only : {checks : List Check} {a : A} → Answered checks a → a ≡ by_number given refusal (first_of checks)
  answer_only {checks} {a} p = go (first_of checks) p.number_is
    where
      go : (n : ℕ) → number a ≡ n → a ≡ by_number given refusal n
      go zero e = p.gives e
      go (suc k) e = p.refuses (λ z. omega arith) ∙ ap refusal e

  -- an answer alone
  abbrev pub answering : (checks : List Check) (Promise : A → Type 0) → ((a : A) → Promise a → Answered checks a) → Case A
  answering checks Promise is = record {
    Promise = Promise;
    checks = checks;
    number = number;
    right = by_number given refusal (first_of checks);
    seen = true;
    only = λ t a p. answer_only (is a p);
  }

  -- an answer and one slice
  pub record Changes {checks : List Check} (target : Target checks) (b : List ℕ) (o : Slice A) : Type 0 where
    pub answers : Answered checks o.answer
    pub right : number o.answer ≡ 0 → target.Right o.words
    pub kept : (number o.answer ≡ 0 → ⊥) → o.words ≡ b

  abbrev pub changing : {checks : List Check} (target : Target checks) (b : List ℕ) (Promise : Slice A → Type 0)
      → ((o : Slice A) → Promise o → Changes target b o) → Case (Slice A)
  changing {checks} target b Promise is = record {
    Promise = Promise;
    checks = checks;
    number = λ o. number o.answer;
    right = record { answer = by_number given refusal (first_of checks); words = left target b (first_of checks) };
    seen = passing target b (first_of checks);
    only = λ t o p.
        let q = is o p in
        let a = answer_only q.answers in
        let ys = words_only target b q.answers.number_is q.right q.kept t in
        λ i. record { answer = a i; words = ys i };
  }

  -- an answer, a buffer and scratch
  pub record Moves {checks : List Check} (target : Target checks) (needed : ℕ) (b s : List ℕ) (o : Block A) : Type 0 where
    pub block : Rearranged checks needed target.Right b s (number o.answer) o.buffer o.scratch
    pub gives : number o.answer ≡ 0 → o.answer ≡ given tt
    pub refuses : (number o.answer ≡ 0 → ⊥) → o.answer ≡ refusal (number o.answer)

  abbrev pub moving : {checks : List Check} (target : Target checks) (needed : ℕ) (b s : List ℕ) (Promise : Block A → Type 0)
      → ((o : Block A) → Promise o → Moves target needed b s o) → Case (Block A)
  moving {checks} target needed b s Promise is =
      let zeros : Target checks = exactly (λ _. cleared needed s) in
      record {
        Promise = Promise;
        checks = checks;
        number = λ o. number o.answer;
        right = record {
          answer = by_number given refusal (first_of checks);
          buffer = left target b (first_of checks);
          scratch = left zeros s (first_of checks);
        };
        seen = passing target b (first_of checks) && passing zeros s (first_of checks);
        only = λ t o p.
            let q = is o p in
            let e = q.block.number_is in
            let a = answer_only {checks = checks} (record { number_is = e; gives = q.gives; refuses = q.refuses }) in
            let ys = words_only target b e q.block.words (λ n. (q.block.kept n).0) (both_left (passing target b (first_of checks)) _ t) in
            let ss = words_only zeros s e q.block.zeroed (λ n. (q.block.kept n).1) (both_right (passing target b (first_of checks)) _ t) in
            λ i. record { answer = a i; buffer = ys i; scratch = ss i };
      }

-- Of many calls a number is all that is answered.
abbrev pub rearranging : {checks : List Check} (target : Target checks) (needed : ℕ) (b s : List ℕ) (Promise : ℕ → List ℕ → List ℕ → Type 0)
    → ((o : Block ℕ) → Promise o.answer o.buffer o.scratch → Rearranged checks needed target.Right b s o.answer o.buffer o.scratch) → Case (Block ℕ)
rearranging target needed b s Promise is =
    moving (λ k. k) (λ _. 0) (λ k. k) target needed b s (λ o. Promise o.answer o.buffer o.scratch) (λ o p. record { block = is o p; gives = λ z. z; refuses = λ n. refl })

abbrev pub replacing : {checks : List Check} (target : Target checks) (b : List ℕ) (Promise : ℕ → List ℕ → Type 0)
    → ((o : Slice ℕ) → Promise o.answer o.words → Changed checks target.Right b o.answer o.words) → Case (Slice ℕ)
replacing target b Promise is =
    changing (λ k. k) (λ _. 0) (λ k. k) target b (λ o. Promise o.answer o.words)
    (λ o p.
    let q = is o p in
    record { answers = record { number_is = q.number_is; gives = λ z. z; refuses = λ n. refl }; right = q.words; kept = q.kept })
