-- The promise to a program and its image, from what its code does at every number of acts.
use Rattle.std.proofs.Common.{◌≡◌, ◌≢◌, ℕ, zero, suc, ◌+◌, ◌-◌, ◌*◌, ◌/◌, ◌^◌, ◌<◌, ◌≤◌, ◌⊎◌, inl, inr, List, Some}
use Rattle.std.proofs.Common.{refl, sym, ap, ◌∙◌, subst, arith}
use Rattle.std.proofs.lemmas.Bool.{cases_lt}
use Rattle.std.proofs.Math.Nat.{mul_comm, div-lt_iff_lt-mul, le-div_iff_mul-le, mul-le-mul_right}
use Rattle.rv_meaning.specs.declared.instr.Fault.{Fault}
use Rattle.pli_meaning.specs.declared.outcome.End.TheVariants as E
use Rattle.pli_meaning.specs.World.{World}
use Rattle.pli_serving.specs.ServiceState.{Services, first_services}
use Rattle.pli_typing.specs.TypedTree.{Program}
use Rattle.pli_meaning.specs.Control as F
use Rattle.pli_meaning.specs.Control.{Flow, Normal, Jump, Return, Paused, Stuck}
use Rattle.pli_meaning.specs.Executing as M
use Rattle.pli_meaning.specs.Executing.{meaning, run}
use Rattle.pli_meaning.specs.Laws.{StorageStays, StorageActsAllowed}
use Rattle.rv_meaning.specs.Tables.{TableSignature}
use Rattle.pli_meaning.specs.Pictures.{Picture, first_machine}
use Rattle.image_runs.specs.Runs.{Whole, Run, Runs, Ended, Stopped, shown_by}
use Rattle.run_steps.specs.Unlimited.{next, run_on}
use Rattle.run_steps.proofs.Unlimited.{same_runs}
use Rattle.pli_headline.specs.Headline.{Keeps, Headline}
use Rattle.run_steps.specs.Engine.{Base, at_base}
use Rattle.run_steps.proofs.Engine.{run_on-add, run_on-ended, run_on-stopped}
use Rattle.run_steps.specs.Growing.{Grows}
use Rattle.run_steps.proofs.Growing.{runs_grow}
use Rattle.run_steps.specs.Giving.{Limits}
use Rattle.run_steps.specs.Reach.{Family, GiveFew, cost, acts_of, Pausing, Ending, Comes, never}
use Rattle.run_steps.proofs.Giving.{together_within}
use Rattle.std.specs.Prelude.{length}

-- the machine with its services at the start, at each base
abbrev pub first_family : Picture → List TableSignature → (input : List ℕ) → Family
first_family image signatures input b =
    record { machine = first_machine image b.at; services = first_services signatures input }

-- the laws of the storage machine on which the promise stands
pub record Laws : Type 0 where
  pub stays : StorageStays
  pub allowed : StorageActsAllowed

-- ---- what comes at a number of acts

-- the program pauses, and so does the code, or it ends, and so does the code
pub data Comes_at (image : Picture) (signatures : List TableSignature) (program : Program) (input : List ℕ)
    (k : ℕ) : Type 0 where
  pauses : (v : Services) → meaning program input k ≡ Some v.world → v.world.acts ≡ k → v.world.end ≡ E.Running →
      Pausing image.code 0 (first_family image signatures input) (first_services signatures input) v →
      Comes_at image signatures program input k
  ends : (v : Services) → meaning program input k ≡ Some v.world → v.world.acts ≤ k → v.world.end ≢ E.Running →
      Ending image.code 0 (first_family image signatures input) (first_services signatures input) v →
      Comes_at image signatures program input k

pub from_flow : (limits : Limits) (laws : Laws) (image : Picture) (signatures : List TableSignature) (program : Program)
    (input : List ℕ) (k : ℕ) (flow : Flow (Unit {0})) → meaning program input k ≡ M.shown flow →
    Comes image.code 0 (first_family image signatures input) (first_services signatures input) (never limits) flow →
    GiveFew image.code limits (first_family image signatures input) → Comes_at image signatures program input k
from_flow limits laws image signatures program input k (Normal x s) e c early = absurd (c.to early)
from_flow limits laws image signatures program input k (Jump height label s) e c early = absurd (c.to early)
from_flow limits laws image signatures program input k (Return x s) e c early = absurd (c.to early)
from_flow limits laws image signatures program input k (F.Ended s) e c early =
    let t = c.to early in
    let m = e ∙ ap Some (sym t.1) in
    ends t.0 m (laws.allowed program input k t.0.world m).0 t.2.over t.2
from_flow limits laws image signatures program input k (Paused s) e c early =
    let t = c.to early in
    let m = e ∙ ap Some (sym t.1) in
    pauses t.0 m ((laws.allowed program input k t.0.world m).1 t.2.running) t.2.running t.2
from_flow limits laws image signatures program input k Stuck e c early = absurd (c.to early)

-- a program whose code is proved to do what it means, where few serials come before the last act
pub record Works (image : Picture) (signatures : List TableSignature) (program : Program) : Type 0 where
  pub small : length image.code ≤ 2 ^ 20
  pub early : ℕ
  pub enough : 2 ^ 64 - 2 ^ 42 ≤ early
  pub comes :
      (input : List ℕ) (k : ℕ) → k + 1 < 2 ^ 64 →
      GiveFew image.code (record { acts = k; serials = early }) (first_family image signatures input) →
      Comes_at image signatures program input k
  pub first : (input : List ℕ) (b : Base) → (w : Whole) ×
      (next (at_base image.code b) (first_family image signatures input b) ≡ Runs w) ×
      (w.services ≡ first_services signatures input)

-- ---- one run against another length of it

one_less : (n : ℕ) → suc n - n ≡ 1
one_less n = omega arith

module _ (image : Picture) (signatures : List TableSignature) (program : Program) (input : List ℕ)
    (works : Works image signatures program) (b : Base) where
  start : Whole
  start = first_family image signatures input b

  -- the run after n instructions
  after : ℕ → Run
  after n = run_on n (at_base image.code b) (Runs start)

  after_more : (m n : ℕ) → m ≤ n → after n ≡ run_on (n - m) (at_base image.code b) (after m)
  unfolding after
  after_more m n h =
      let e : n ≡ m + (n - m) = omega arith in
      ap (λ u. run_on u (at_base image.code b) (Runs start)) e ∙
      run_on-add m (n - m) (at_base image.code b) (Runs start)

  -- from a machine that runs on, what is shown later
  later : (m n : ℕ) (w : Whole) → m ≤ n → after m ≡ Runs w → Grows (n - m) w (after n)
  later m n w h e =
      let f : run_on (n - m) (at_base image.code b) (Runs w) ≡ after n =
      ap (run_on (n - m) (at_base image.code b)) (sym e) ∙ sym (after_more m n h) in
      subst (Grows (n - m) w) f (runs_grow (n - m) (at_base image.code b) w)

  ended_later : (m n : ℕ) (w : Whole) → m ≤ n → after m ≡ Ended w → after n ≡ Ended w
  ended_later m n w h e = after_more m n h ∙ ap (run_on (n - m) (at_base image.code b)) e ∙
      run_on-ended (n - m) (at_base image.code b) w

  stopped_later : (m n : ℕ) (fault : Fault) → m ≤ n → after m ≡ Stopped fault → after n ≡ Stopped fault
  stopped_later m n fault h e = after_more m n h ∙ ap (run_on (n - m) (at_base image.code b)) e ∙
      run_on-stopped (n - m) (at_base image.code b) fault

  -- the first instruction makes no act, so that n instructions make fewer than n
  few_by : (n : ℕ) (w : Whole) → next (at_base image.code b) start ≡ Runs w →
      w.services ≡ first_services signatures input → Grows n w (after (suc n))
  unfolding after run_on
  few_by n w e f =
      subst (λ r. Grows n w (run_on n (at_base image.code b) r)) (sym e) (runs_grow n (at_base image.code b) w)

  few_runs : (n : ℕ) (w : Whole) → after n ≡ Runs w → (suc w.services.world.acts ≤ n) ⊎ ((n ≡ 0) ×
      (w.services.world.acts ≡ 0))
  unfolding after run_on start
  few_runs zero w e =
      let P : Run → Type 0 = elim [ Runs x ↦ x.services.world.acts ≡ 0 | Ended x ↦ Unit {0} | Stopped x ↦ Unit {0} ] in
      inr (refl, subst P e refl)
  few_runs (suc n) w e =
      let f = works.first input b in
      let a = ap (λ (x : Services). x.world.acts) f.2 in
      let g = subst (Grows n f.0) e (few_by n f.0 f.1 f.2) in
      inl (omega (arith, a, g.2))

  few_ended : (n : ℕ) (w : Whole) → after n ≡ Ended w → suc w.services.world.acts ≤ n
  unfolding after run_on start
  few_ended zero w e = absurd (cc e)
  few_ended (suc n) w e =
      let f = works.first input b in
      let a = ap (λ (x : Services). x.world.acts) f.2 in
      let g = subst (Grows n f.0) e (few_by n f.0 f.1 f.2) in
      omega (arith, a, g.1)

  -- past a pause the acts are more
  past_pause : (n m : ℕ) (w : Whole) (v : Services) (r : Run) → n < m → after n ≡ Runs w →
      next (at_base image.code b) w ≡ r → acts_of r ≡ Some (suc v.world.acts) → (u : Whole) → after m ≡ Runs u →
      u.services.world.acts ≤ v.world.acts → ⊥
  unfolding after run_on start
  past_pause n m w v (Runs x) h e f a u g same =
      let at : after (suc n) ≡ Runs x = after_more n (suc n) (omega arith) ∙
      ap (λ k. run_on k (at_base image.code b) (after n)) (one_less n) ∙
      ap (run_on 1 (at_base image.code b)) e ∙ f in
      let l = subst (Grows (m - suc n) x) g (later (suc n) m x h at) in
      let i : x.services.world.acts ≡ suc v.world.acts = cc a in
      absurd (omega (arith, l.0, i, same))
  past_pause n m w v (Ended x) h e f a u g same =
      let at : after (suc n) ≡ Ended x = after_more n (suc n) (omega arith) ∙
      ap (λ k. run_on k (at_base image.code b) (after n)) (one_less n) ∙
      ap (run_on 1 (at_base image.code b)) e ∙ f in
      let l = ended_later (suc n) m x h at in
      absurd (cc (l, g))
  past_pause n m w v (Stopped x) h e f a u g same = absurd (cc a)

-- ---- serials come before the last act

-- so many acts were made in a run of so many instructions
abbrev Makes : (image : Picture) (signatures : List TableSignature) (program : Program) (input : List ℕ) →
    Works image signatures program → Base → (n k : ℕ) → Type 0
Makes image signatures program input works b n k =
    (u : Whole) × ((after image signatures program input works b n ≡ Runs u) ⊎
    (after image signatures program input works b n ≡ Ended u)) × (k ≤ u.services.world.acts)

-- acts come so often that as many serials are left
left_over : (small count k : ℕ) → small ≤ 2 ^ 20 → count < (2 * small + 2) * (k + 1) → count < 2 ^ 64 →
    count ≤ 2 ^ 64 - 2 ^ 42 + k
left_over small count k h paid less =
    let most = mul-le-mul_right (k + 1) (twice h) in
    omega (arith, most, paid, less)
  where
    twice : small ≤ 2 ^ 20 → 2 * small + 2 ≤ 2 ^ 21 + 2
    twice h' = omega (arith, h')

module _ (image : Picture) (signatures : List TableSignature) (program : Program) (input : List ℕ)
    (works : Works image signatures program) where
  abbrev limits_at : ℕ → Limits
  limits_at k = record { acts = k; serials = works.early }

  abbrev start_at : Family
  start_at = first_family image signatures input

  -- a pause before the next act, which was made: no machine before that has more serials
  early_pause : (k n : ℕ) (b : Base) → n < 2 ^ 64 → Makes image signatures program input works b n (suc k) →
      (v : Services) → v.world.acts ≡ k →
      (p : Pausing image.code 0 start_at (first_services signatures input) v) →
      GiveFew image.code (limits_at (suc k)) start_at
  unfolding after start
  early_pause k n b less (u, ran, more) v a p c j x at few =
      by_place (cases_lt p.to.count j)
    where
      -- the pause came earlier
      before_n : p.to.count < n
      before_n = by (cases_lt p.to.count n) ran
        where
          by : (p.to.count < n) ⊎ (n ≤ p.to.count) →
              (after image signatures program input works b n ≡ Runs u) ⊎
              (after image signatures program input works b n ≡ Ended u) → p.to.count < n
          by (inl h) r = h
          by (inr h) (inl e) =
              let g = p.to.goes b in
              let s = ap (λ (y : Services). y.world.acts) g.holds.services in
              let l = subst (Grows (p.to.count - n) u) g.ran
              (later image signatures program input works b n p.to.count u h e) in
              absurd (omega (arith, l.0, s, a, more))
          by (inr h) (inr e) =
              let g = p.to.goes b in
              let l = ended_later image signatures program input works b n p.to.count u h e in
              absurd (cc (l, g.ran))

      by_place : (p.to.count < j) ⊎ (j ≤ p.to.count) → x.services.serials ≤ works.early
      by_place (inl h) =
          let q = p.to.goes c in
          absurd (past_pause image signatures program input works c p.to.count j q.after v
          (next (at_base image.code c) q.after) h q.ran refl q.holds.act x at (omega (arith, few, a)))
      by_place (inr h) =
          let q = p.to.goes c in
          let l = subst (Grows (p.to.count - j) x) q.ran
          (later image signatures program input works c j p.to.count x h at) in
          let s = ap (λ (y : Services). y.world.acts) q.holds.services in
          let all = together_within j (at_base image.code c) (start_at c) x at in
          let paid = p.to.paid in
          let inside = p.inside in
          let enough = works.enough in
          let most = left_over (length image.code) p.to.count v.world.acts works.small
          (omega (arith, paid, inside)) (omega (arith, before_n, less)) in
          omega (arith, most, enough, all, l.2, s)

  early_at : (k n : ℕ) (b : Base) → n < 2 ^ 64 → Makes image signatures program input works b n k →
      GiveFew image.code (limits_at k) start_at
  unfolding after start
  early_at zero n b less made = λ c j x at few. absurd (omega (arith, few))
  early_at (suc k) n b less (u, ran, more) =
      by_comes (works.comes input k (below ran) (early_at k n b less (u, ran, omega (arith, more))))
    where
      below : (after image signatures program input works b n ≡ Runs u) ⊎
          (after image signatures program input works b n ≡ Ended u) → k + 1 < 2 ^ 64
      below (inl e) = by (few_runs image signatures program input works b n u e)
        where
          by : (suc u.services.world.acts ≤ n) ⊎ ((n ≡ 0) × (u.services.world.acts ≡ 0)) → k + 1 < 2 ^ 64
          by (inl h) = omega (arith, h, more, less)
          by (inr h) = let none = h.1 in absurd (omega (arith, none, more))
      below (inr e) =
          let h = few_ended image signatures program input works b n u e in
          omega (arith, h, more, less)

      by_end : (v : Services) → v.world.acts ≤ k →
          (p : Ending image.code 0 start_at (first_services signatures input) v) → ⊥
      by_end v a p = by (cases_lt n p.count) ran
        where
          by : (n < p.count) ⊎ (p.count ≤ n) → (after image signatures program input works b n ≡ Runs u) ⊎
              (after image signatures program input works b n ≡ Ended u) → ⊥
          by (inl h) (inl e) =
              let g = p.goes b in
              let s = ap (λ (y : Services). y.world.acts) g.services in
              let l = subst (Grows (p.count - n) u) g.ran
              (later image signatures program input works b n p.count u (omega (arith, h)) e) in
              omega (arith, l.0, s, a, more)
          by (inl h) (inr e) =
              let g = p.goes b in
              let s = ap (λ (y : Services). y.world.acts) g.services in
              let l = ended_later image signatures program input works b n p.count u (omega (arith, h)) e in
              let same : u ≡ g.after = cc (l, g.ran) in
              let acts' = ap (λ (y : Whole). y.services.world.acts) same in
              omega (arith, acts', s, a, more)
          by (inr h) (inl e) =
              let g = p.goes b in
              let s = ap (λ (y : Services). y.world.acts) g.services in
              let l = ended_later image signatures program input works b p.count n g.after h g.ran in
              cc (l, e)
          by (inr h) (inr e) =
              let g = p.goes b in
              let s = ap (λ (y : Services). y.world.acts) g.services in
              let l = ended_later image signatures program input works b p.count n g.after h g.ran in
              let same : u ≡ g.after = cc (l, e) in
              let acts' = ap (λ (y : Whole). y.services.world.acts) same in
              omega (arith, acts', s, a, more)

      by_comes : Comes_at image signatures program input k → GiveFew image.code (limits_at (suc k)) start_at
      by_comes (pauses v m a r p) = early_pause k n b less (u, ran, more) v a p
      by_comes (ends v m a r p) = absurd (by_end v a p)

-- ---- what a run shows

module _ (image : Picture) (signatures : List TableSignature) (program : Program) (input : List ℕ)
    (works : Works image signatures program) (b : Base) where
  -- what a run of n instructions shows, and why it is the program's
  record Result (n : ℕ) (w : World) : Type 0 where
    shows : shown_by ((after image signatures program input works b) n) ≡ Some w
    meant : meaning program input w.acts ≡ Some w
    status : ((v : Services) × (v.world ≡ w) × (w.end ≡ E.Running) ×
        (p : Pausing image.code 0 (first_family image signatures input) (first_services signatures input) v) ×
        (n ≤ p.to.count) × (u : Whole) × ((after image signatures program input works b) n ≡ Runs u) ×
        (u.services.world ≡ w)) ⊎ ((u : Whole) ×
        ((after image signatures program input works b) n ≡ Ended u) × (w.end ≢ E.Running))

  world_of : (u : Whole) (v : Services) → u.services ≡ v → v.world ≡ u.services.world
  world_of u v e = ap (λ (x : Services). x.world) (sym e)

  -- a run that goes on
  running : (n : ℕ) (u : Whole) → n < 2 ^ 64 →
      (after image signatures program input works b) n ≡ Runs u → Result n u.services.world
  unfolding after start
  running n u bound e = by_few ((few_runs image signatures program input works b) n u e)
    where
      by_pause : (v : Services) → meaning program input u.services.world.acts ≡ Some v.world →
          v.world.acts ≡ u.services.world.acts → v.world.end ≡ E.Running →
          (p : Pausing image.code 0 (first_family image signatures input) (first_services signatures input) v) →
          (p.to.count < n) ⊎ (n ≤ p.to.count) → Result n u.services.world
      by_pause v m a r p (inl h) =
          let g = p.to.goes b in
          absurd ((past_pause image signatures program input works b) p.to.count n g.after v (next
          (at_base image.code b) g.after) h g.ran refl g.holds.act u e (omega (arith, a)))
      by_pause v m a r p (inr h) =
          let g = p.to.goes b in
          let l = subst (Grows (p.to.count - n) u) g.ran
          ((later image signatures program input works b) n p.to.count u h e) in
          let s = ap (λ (x : Services). x.world.acts) g.holds.services in
          let same : g.after.services.world ≡ u.services.world = l.1 (s ∙ a) in
          let w : v.world ≡ u.services.world = ap (λ (x : Services). x.world) (sym g.holds.services) ∙ same in
          record {
            shows = ap shown_by e;
            meant = m ∙ ap Some w;
            status = inl (v, w, ap (λ (x : World). x.end) (sym w) ∙ r, p, h, u, e, refl);
          }

      by_end : (v : Services) → v.world.acts ≤ u.services.world.acts →
          (p : Ending image.code 0 (first_family image signatures input) (first_services signatures input) v) →
          (n < p.count) ⊎ (p.count ≤ n) → Result n u.services.world
      by_end v a p (inl h) =
          let g = p.goes b in
          let l = subst (Grows (p.count - n) u) g.ran ((later image signatures program input works b) n p.count u (omega
          (arith, h)) e) in
          let s = ap (λ (x : Services). x.world.acts) g.services in
          absurd (omega (arith, l.0, s, a))
      by_end v a p (inr h) =
          let g = p.goes b in
          let l = (ended_later image signatures program input works b) p.count n g.after h g.ran in
          absurd (cc (l, e))

      by_comes : Comes_at image signatures program input u.services.world.acts → Result n u.services.world
      by_comes (pauses v m a r p) = by_pause v m a r p (cases_lt p.to.count n)
      by_comes (ends v m a r p) = by_end v a p (cases_lt n p.count)

      by_few : (suc u.services.world.acts ≤ n) ⊎ ((n ≡ 0) × (u.services.world.acts ≡ 0)) → Result n u.services.world
      by_few (inl h) = by_comes
          (works.comes input u.services.world.acts (omega (arith, h, bound))
          (early_at image signatures program input works u.services.world.acts n b bound (u, inl e, omega arith)))
      by_few (inr h) = by_comes
          (works.comes input u.services.world.acts (let z = h.1 in omega (arith, z))
          (early_at image signatures program input works u.services.world.acts n b bound (u, inl e, omega arith)))

  -- a run that has ended
  ended : (n : ℕ) (u : Whole) → n < 2 ^ 64 →
      (after image signatures program input works b) n ≡ Ended u → Result n u.services.world
  unfolding after start
  ended n u bound e = by_comes (works.comes input u.services.world.acts (let h =
      (few_ended image signatures program input works b) n u e in omega (arith, h, bound))
      (early_at image signatures program input works u.services.world.acts n b bound (u, inr e, omega arith)))
    where
      by_pause : (v : Services) → v.world.acts ≡ u.services.world.acts →
          (p : Pausing image.code 0 (first_family image signatures input) (first_services signatures input) v) →
          (p.to.count < n) ⊎ (n ≤ p.to.count) → Result n u.services.world
      by_pause v a p (inl h) =
          let g = p.to.goes b in
          let l = subst (Grows (n - p.to.count) g.after) e
          ((later image signatures program input works b) p.to.count n g.after (omega (arith, h)) g.ran) in
          let s = ap (λ (x : Services). x.world.acts) g.holds.services in
          absurd (omega (arith, l.0, s, a))
      by_pause v a p (inr h) =
          let g = p.to.goes b in
          let l = (ended_later image signatures program input works b) n p.to.count u h e in
          absurd (cc (l, g.ran))

      by_end : (v : Services) → meaning program input u.services.world.acts ≡ Some v.world →
          v.world.end ≢ E.Running →
          (p : Ending image.code 0 (first_family image signatures input) (first_services signatures input) v) →
          (n < p.count) ⊎ (p.count ≤ n) → Result n u.services.world
      by_end v m r p (inl h) =
          let g = p.goes b in
          let l = (ended_later image signatures program input works b) n p.count u (omega (arith, h)) e in
          let same : u ≡ g.after = cc (l, g.ran) in
          let w : v.world ≡ u.services.world = ap (λ (x : Services). x.world) (sym g.services) ∙
          ap (λ (x : Whole). x.services.world) (sym same) in
          record {
            shows = ap shown_by e;
            meant = m ∙ ap Some w;
            status =
                inr (u, e, subst (λ (x : World). x.end ≢ E.Running) w r);
          }
      by_end v m r p (inr h) =
          let g = p.goes b in
          let l = (ended_later image signatures program input works b) p.count n g.after h g.ran in
          let same : u ≡ g.after = cc (l, e) in
          let w : v.world ≡ u.services.world = ap (λ (x : Services). x.world) (sym g.services) ∙
          ap (λ (x : Whole). x.services.world) (sym same) in
          record {
            shows = ap shown_by e;
            meant = m ∙ ap Some w;
            status =
                inr (u, e, subst (λ (x : World). x.end ≢ E.Running) w r);
          }

      by_comes : Comes_at image signatures program input u.services.world.acts → Result n u.services.world
      by_comes (pauses v m a r p) = by_pause v a p (cases_lt p.to.count n)
      by_comes (ends v m a r p) = by_end v m r p (cases_lt n p.count)

  -- no run stops at a fault
  never_stops : (n : ℕ) (fault : Fault) → n < 2 ^ 64 →
      after image signatures program input works b n ≡ Stopped fault → ⊥
  unfolding after run_on start
  never_stops zero fault bound e = cc e
  never_stops (suc m) fault bound e = by (after image signatures program input works b m) refl
      (λ other at. never_stops m other (omega (arith, bound)) at)
    where
      -- the last machine before
      last : (u : Whole) → after image signatures program input works b m ≡ Runs u → ⊥
      last u at = by_comes
          (works.comes input u.services.world.acts (enough (few_runs image signatures program input works b m u at))
          (early_at image signatures program input works u.services.world.acts m b (omega (arith, bound))
          (u, inl at, omega arith)))
        where
          enough : (suc u.services.world.acts ≤ m) ⊎ ((m ≡ 0) × (u.services.world.acts ≡ 0)) →
              u.services.world.acts + 1 < 2 ^ 64
          enough (inl h) = omega (arith, h, bound)
          enough (inr h) = let z = h.1 in omega (arith, z)

          stopped : next (at_base image.code b) u ≡ Stopped fault
          stopped = sym (after_more image signatures program input works b m (suc m) (omega arith) ∙
              ap (λ k. run_on k (at_base image.code b) (after image signatures program input works b m)) (one_less m) ∙
              ap (run_on 1 (at_base image.code b)) at) ∙ e

          by_pause : (v : Services) → v.world.acts ≡ u.services.world.acts →
              (p : Pausing image.code 0 (first_family image signatures input) (first_services signatures input) v) →
              (p.to.count < m) ⊎ (m ≤ p.to.count) → ⊥
          by_pause v a p (inl h) =
              let g = p.to.goes b in
              past_pause image signatures program input works b p.to.count m g.after v
              (next (at_base image.code b) g.after) h g.ran refl g.holds.act u at (omega (arith, a))
          by_pause v a p (inr h) = by_count (cases_lt m p.to.count)
            where
              by_count : (m < p.to.count) ⊎ (p.to.count ≤ m) → ⊥
              by_count (inl i) =
                  let g = p.to.goes b in
                  let l = stopped_later image signatures program input works b (suc m) p.to.count fault
                  (omega (arith, i)) e in
                  cc (l, g.ran)
              by_count (inr i) =
                  let g = p.to.goes b in
                  let same : m ≡ p.to.count = omega (arith, h, i) in
                  let there : Runs u ≡ Runs g.after =
                  sym at ∙ ap (after image signatures program input works b) same ∙ g.ran in
                  let one : u ≡ g.after = cc there in
                  let act = g.holds.act in
                  let none = ap acts_of (ap (next (at_base image.code b)) (sym one) ∙ stopped) in
                  cc (act, none)

          by_end : (v : Services) →
              (p : Ending image.code 0 (first_family image signatures input) (first_services signatures input) v) →
              (m < p.count) ⊎ (p.count ≤ m) → ⊥
          by_end v p (inl h) =
              let g = p.goes b in
              let l = stopped_later image signatures program input works b (suc m) p.count fault (omega (arith, h)) e in
              cc (l, g.ran)
          by_end v p (inr h) =
              let g = p.goes b in
              let l = ended_later image signatures program input works b p.count m g.after h g.ran in
              cc (l, at)

          by_comes : Comes_at image signatures program input u.services.world.acts → ⊥
          by_comes (pauses v q a r p) = by_pause v a p (cases_lt p.to.count m)
          by_comes (ends v q a r p) = by_end v p (cases_lt m p.count)

      by : (r : Run) → after image signatures program input works b m ≡ r →
          ((other : Fault) → after image signatures program input works b m ≡ Stopped other → ⊥) → ⊥
      by (Runs u) at earlier = last u at
      by (Ended u) at earlier =
          let l = ended_later image signatures program input works b m (suc m) u (omega arith) at in
          cc (l, e)
      by (Stopped other) at earlier = earlier other at

  -- what a run of n instructions comes to
  result_by : (n : ℕ) (r : Run) → n < 2 ^ 64 → (after image signatures program input works b) n ≡ r →
      (w : World) × Result n w
  result_by n (Runs u) bound e = (u.services.world, running n u bound e)
  result_by n (Ended u) bound e = (u.services.world, ended n u bound e)
  result_by n (Stopped fault) bound e = absurd (never_stops n fault bound e)

  result : (n : ℕ) → n < 2 ^ 64 → (w : World) × Result n w
  result n bound = result_by n ((after image signatures program input works b) n) bound refl

-- ---- the promise

ended_by : (laws : Laws) (program : Program) (input : List ℕ) (m k : ℕ) (w : World) →
    meaning program input m ≡ Some w → w.end ≢ E.Running → m ≤ suc k → (m ≤ k → meaning program input k ≡ Some w) →
    (m < suc k) ⊎ (suc k ≤ m) → meaning program input (suc k) ≡ Some w
ended_by laws program input m k w e r h ih (inl i) = laws.stays program input k w (ih (omega arith)) r
ended_by laws program input m k w e r h ih (inr i) =
    let z : m ≡ suc k = omega arith in
    subst (λ n. meaning program input n ≡ Some w) z e

ended_from : (laws : Laws) (program : Program) (input : List ℕ) (m k : ℕ) (w : World) → m ≤ k →
    meaning program input m ≡ Some w → w.end ≢ E.Running → meaning program input k ≡ Some w
ended_from laws program input m zero w h e r =
    let z : m ≡ 0 = omega arith in
    subst (λ n. meaning program input n ≡ Some w) z e
ended_from laws program input m (suc k) w h e r =
    ended_by laws program input m k w e r h (λ i. ended_from laws program input m k w i e r) (cases_lt m (suc k))

quotient_below : (n c k : ℕ) → 0 < c → n < c * (k + 1) → n / c ≤ k
quotient_below n c k p h =
    let e : c * (k + 1) ≡ (k + 1) * c = mul_comm c (k + 1) in
    let f : n < (k + 1) * c = omega (arith, h, e) in
    let g : n / c < k + 1 = (div-lt_iff_lt-mul p).1 f in
    omega (arith, g)

worked : (image : Picture) (signatures : List TableSignature) (program : Program) (input : List ℕ)
    (works : Works image signatures program) (b : Base) (n : ℕ) (w : World) →
    Result image signatures program input works b n w → w.end ≡ E.Running → n / cost image.code ≤ w.acts
worked image signatures program input works b n w r running' = by_status r.status
  where
    by_status : ((v : Services) × (v.world ≡ w) × (w.end ≡ E.Running) ×
        (p : Pausing image.code 0 (first_family image signatures input) (first_services signatures input) v) ×
        (n ≤ p.to.count) × (u : Whole) × (after image signatures program input works b n ≡ Runs u) ×
        (u.services.world ≡ w)) ⊎ ((u : Whole) × (after image signatures program input works b n ≡ Ended u) ×
        (w.end ≢ E.Running)) → n / cost image.code ≤ w.acts
    by_status (inl h) =
        let p = h.3 in
        let a = ap (λ (x : World). x.acts) h.1 in
        let few : n < cost image.code * (h.0.world.acts + 1) = omega (arith, h.4, p.to.paid, p.inside) in
        let q = quotient_below n (cost image.code) h.0.world.acts (omega arith) few in
        omega (arith, q, a)
    by_status (inr h) = absurd (h.2 running')

more_acts : (n c m k : ℕ) → 0 < c → n / c ≤ k → (m + 1) * c ≤ n → m + 1 ≤ k
more_acts n c m k p h i = let g : m + 1 ≤ n / c = (le-div_iff_mul-le p).1 i in omega (arith, g, h)

keeps : (laws : Laws) (image : Picture) (signatures : List TableSignature) (program : Program)
    (input : List ℕ) (works : Works image signatures program) (b : Base) (n : ℕ) (w : World) →
    Result image signatures program input works b n w → Keeps program image input n w
keeps laws image signatures program input works b n w r =
    record {
      meant = r.meant;
      worked = worked image signatures program input works b n w r;
      ends = λ m v e ended' h running'.
          let q = worked image signatures program input works b n w r running' in
          let i = more_acts n (cost image.code) m w.acts (omega arith) q h in
          let j = ended_from laws program input m w.acts v (omega arith) e ended' in
          let same : v ≡ w = cc (j, r.meant) in
          ended' (ap (λ (x : World). x.end) same ∙ running');
    }

-- a run that goes on at one base, against a pause that comes as late at every base
against : (image : Picture) (signatures : List TableSignature) (program : Program) (input : List ℕ)
    (works : Works image signatures program) (b : Base) (n : ℕ) (u : Whole) (v : Services)
    (p : Pausing image.code 0 (first_family image signatures input) (first_services signatures input) v) →
    after image signatures program input works b n ≡ Runs u → n ≤ p.to.count →
    (u.services.world.acts ≤ v.world.acts) × (v.world.acts ≤ u.services.world.acts → v.world ≡ u.services.world)
unfolding after start
against image signatures program input works b n u v p e h =
    let g = p.to.goes b in
    let l = subst (Grows (p.to.count - n) u) g.ran (later image signatures program input works b n p.to.count u h e) in
    let s = ap (λ (x : Services). x.world.acts) g.holds.services in
    let t = ap (λ (x : Services). x.world) g.holds.services in
    (omega (arith, l.0, s), λ i. sym t ∙ l.1 (omega (arith, i, l.0, s)))

-- a run that has ended at one base has ended before any pause that comes as late
not_over : (image : Picture) (signatures : List TableSignature) (program : Program) (input : List ℕ)
    (works : Works image signatures program) (b : Base) (n : ℕ) (u : Whole) (v : Services)
    (p : Pausing image.code 0 (first_family image signatures input) (first_services signatures input) v) →
    after image signatures program input works b n ≡ Ended u → n ≤ p.to.count → ⊥
unfolding after start
not_over image signatures program input works b n u v p e h =
    let g = p.to.goes b in
    let l = ended_later image signatures program input works b n p.to.count u h e in
    cc (l, g.ran)

both_ended : (laws : Laws) (program : Program) (input : List ℕ) (w w' : World) →
    meaning program input w.acts ≡ Some w → meaning program input w'.acts ≡ Some w' → w.end ≢ E.Running →
    w'.end ≢ E.Running → (w.acts < w'.acts) ⊎ (w'.acts ≤ w.acts) → w ≡ w'
both_ended laws program input w w' e f h i (inl l) = let j =
    ended_from laws program input w.acts w'.acts w (omega arith) e h in cc (j, f)
both_ended laws program input w w' e f h i (inr l) = let j =
    ended_from laws program input w'.acts w.acts w' l f i in cc (j, e)

-- two bases show the same
same_anywhere : (laws : Laws) (image : Picture) (signatures : List TableSignature) (program : Program)
    (input : List ℕ) (works : Works image signatures program) (b c : Base) (n : ℕ) (w w' : World) →
    Result image signatures program input works b n w → Result image signatures program input works c n w' → w ≡ w'
same_anywhere laws image signatures program input works b c n w w' r q = by_both r.status q.status
  where
    by_both : ((v : Services) × (v.world ≡ w) × (w.end ≡ E.Running) ×
        (p : Pausing image.code 0 (first_family image signatures input) (first_services signatures input) v) ×
        (n ≤ p.to.count) × (u : Whole) × (after image signatures program input works b n ≡ Runs u) ×
        (u.services.world ≡ w)) ⊎ ((u : Whole) × (after image signatures program input works b n ≡ Ended u) ×
        (w.end ≢ E.Running)) → ((v : Services) × (v.world ≡ w') × (w'.end ≡ E.Running) ×
        (p : Pausing image.code 0 (first_family image signatures input) (first_services signatures input) v) ×
        (n ≤ p.to.count) × (u : Whole) × (after image signatures program input works c n ≡ Runs u) ×
        (u.services.world ≡ w')) ⊎ ((u : Whole) × (after image signatures program input works c n ≡ Ended u) ×
        (w'.end ≢ E.Running)) → w ≡ w'
    by_both (inl x) (inl y) =
        let f = against image signatures program input works b n x.5 y.0 y.3 x.6 y.4 in
        let g = against image signatures program input works c n y.5 x.0 x.3 y.6 x.4 in
        let a = ap (λ (z : World). z.acts) x.1 in
        let a' = ap (λ (z : World). z.acts) x.7 in
        let c' = ap (λ (z : World). z.acts) y.1 in
        let d' = ap (λ (z : World). z.acts) y.7 in
        let same = f.1 (omega (arith, g.0, a, a', c', d')) in
        sym x.7 ∙ sym same ∙ y.1
    by_both (inl x) (inr y) = absurd (not_over image signatures program input works c n y.0 x.0 x.3 y.1 x.4)
    by_both (inr x) (inl y) = absurd (not_over image signatures program input works b n x.0 y.0 y.3 x.1 y.4)
    by_both (inr x) (inr y) = both_ended laws program input w w' r.meant q.meant x.2 y.2 (cases_lt w.acts w'.acts)

-- a program whose code works keeps the promise
pub promised : (laws : Laws) (image : Picture) (signatures : List TableSignature) (program : Program) →
    Works image signatures program → Headline program image signatures
unfolding after start
promised laws image signatures program works base input bound valid fits =
    let b : Base = record { at = base; valid = valid } in
    let r = result image signatures program input works b bound fits in
    record {
      world = r.0;
      shows = ap shown_by (sym (same_runs bound (at_base image.code b) (first_family image signatures input b)
          (omega (arith, fits)))) ∙ r.1.shows;
      keeps = keeps laws image signatures program input works b bound r.0 r.1;
      anywhere = λ other valid'.
          let c : Base = record { at = other; valid = valid' } in
          let q = result image signatures program input works c bound fits in
          ap shown_by (sym (same_runs bound (at_base image.code c) (first_family image signatures input c)
          (omega (arith, fits)))) ∙ q.1.shows ∙
          ap Some (sym (same_anywhere laws image signatures program input works b c bound r.0 q.0 r.1 q.1));
    }
