-- A procedure that is called stands in the block that holds it: that is the static ancestor at the call's level.
use Rattle.std.proofs.Common.{◌≡◌, ℕ, suc, ◌≤◌, List, [], ◌∷◌, ◌++◌, Option, Some, Bool, true, false}
use Rattle.std.proofs.Common.{refl, ap}
use Rattle.std.proofs.Common.{sym, ◌∙◌, subst, arith}
use Rattle.std.specs.Prelude.{◌==◌, cond, length, slice_get}
use Rattle.std.proofs.lemmas.Bool.Decides.{nat_tests}
use Rattle.pli_typing.specs.TypedTree as Y
use Rattle.pli_meaning.specs.StorageState.{Activation, ancestor, height_of, newest_height}
use Rattle.well_formed_trees.specs.Surroundings.{Around, Table, Returning}
use Rattle.well_formed_trees.specs.Surroundings as W
use Rattle.well_formed_trees.specs.Expressions.{IsProcedure}
use Rattle.well_formed_trees.specs.WellFormed.{IsHeld}
use Rattle.meaning_runs.proofs.Frames.{Frame, skeleton, outlines, Stands, Chain, IsUnder, AreAmong, Reached}
use Rattle.meaning_runs.proofs.Frames.{among_second, enters_own, covers_own, stands_as, around_at, reached}
use Rattle.meaning_runs.proofs.Frames.{newest_ancestor}
use Rattle.meaning_runs.proofs.Demands.{block_around, placed}
use Rattle.meaning_runs.proofs.Ways.{FineProcedure, Footing}

pub record Callee (p : Y.Program) (table : Table) (fs : List Frame) (height : ℕ) (q : Y.Procedure)
    (f : FineProcedure p table q) : Type 0 where
  pub chain : Chain table (block_around f.block.head f.block.body ∷ f.block.outer)
  pub stands : Stands fs height f.block.outer

-- what is found has the number
numbered : (number : ℕ) (ps : List Y.Procedure) (q : Y.Procedure) → W.procedure_numbered number ps ≡ Some q
    → (W.head_of q.block).number ≡ number
numbered number [] q e = absurd (cc e)
numbered number (p ∷ ps) q e =
    by_test ((W.head_of p.block).number == number) (W.procedure_numbered number ps) refl
    (λ f. numbered number ps q f) e
  where
    by_test : (t : Bool) (o : Option Y.Procedure) → ((W.head_of p.block).number == number) ≡ t
        → (o ≡ Some q → (W.head_of q.block).number ≡ number) → cond t (Some p) o ≡ Some q
        → (W.head_of q.block).number ≡ number
    by_test true o d further f =
        let same : p ≡ q = cc f in
        let is : (W.head_of p.block).number ≡ number = grind (arith, nat_tests, d) in
        subst (λ x. (W.head_of x.block).number ≡ number) same is
    by_test false o d further f = further f

pub callee : (p : Y.Program) (table : Table) (fs : List Frame) (as' : List Activation) (blocks : List Around)
    (returning : Returning) (number level : ℕ) (q : Y.Procedure) (f : FineProcedure p table q) → Footing table fs blocks
    → skeleton as' ≡ outlines fs → IsProcedure (placed p table blocks returning) number level q
    → Callee p table fs (height_of (ancestor as' (newest_height as') level)) q f
callee p table fs as' blocks returning number level q f footing e i =
    let own : Around = block_around f.block.head f.block.body in
    let head : W.head_of q.block ≡ f.block.head = ap W.head_of f.block.is in
    let same : f.block.head.number ≡ number =
    sym (ap (λ h. h.number) head) ∙ numbered number p.procedures q i.found in
    let listed : slice_get table number ≡ Some (own ∷ f.block.outer) =
    subst (λ n. slice_get table n ≡ Some (own ∷ f.block.outer)) same f.listed in
    let both : Some (i.own ∷ i.holder ∷ i.outer) ≡ Some (own ∷ f.block.outer) = sym i.entry ∙ listed in
    let outer : f.block.outer ≡ i.holder ∷ i.outer = cc both in
    let held : IsHeld table f.block.head.level (i.holder ∷ i.outer) =
    subst (IsHeld table f.block.head.level) outer f.held in
    let deep : f.block.head.level ≡ suc level = sym (ap (λ h. h.level) head) ∙ i.level_is in
    let at : i.holder.level ≡ level = omega (arith, held.0, deep) in
    let r : Reached table fs (height_of (ancestor as' (length fs) level)) level (λ a. a.number ≡ i.holder.number) =
    reached table level (λ a. a.number ≡ i.holder.number) fs as' (length fs) blocks e footing.stands footing.chain
    (around_at i.holder.number level blocks i.holder_around) in
    let entered : (i.holder.level ≤ r.own.level) × (i.holder.level ≡ r.own.level
    → (r.outer ≡ i.outer) × ((i.holder.inner ≡ []) × AreAmong i.holder.outermost r.own.outermost)) =
    r.chain.0.0 i.holder i.outer
    (subst (λ n. slice_get table n ≡ Some (i.holder ∷ i.outer)) (sym r.so) held.1) in
    let fits = entered.1 (at ∙ sym r.level_is) in
    let labels : AreAmong (W.labels_of i.holder) (W.labels_of r.own) =
    λ label h. among_second label r.own.inner r.own.outermost
    (fits.1.1 label (subst (λ xs. W.is_among label (xs ++ i.holder.outermost) ≡ true) fits.1.0 h)) in
    let under : IsUnder i.holder.level i.outer =
    subst (λ os. IsUnder i.holder.level os) fits.0
    (subst (λ n. IsUnder n r.outer) (r.level_is ∙ sym at) r.chain.1.0) in
    let chain : Chain table (own ∷ i.holder ∷ i.outer) = (
      (
        enters_own table own own (i.holder ∷ i.outer)
            (subst (λ os. slice_get table own.number ≡ Some (own ∷ os)) outer f.listed) refl refl (λ label h. h),
        covers_own table own own (i.holder ∷ i.outer)
            (subst (λ os. slice_get table own.number ≡ Some (own ∷ os)) outer f.listed) refl refl,
      ),
      (
        omega (arith, held.0),
        (
          (
            enters_own table i.holder i.holder i.outer held.1 refl fits.1.0 (λ label h. h),
            covers_own table i.holder i.holder i.outer held.1 refl refl,
          ),
          (under, subst (Chain table) fits.0 r.chain.1.1),
        ),
      ),
    ) in
    let stands : Stands fs (height_of (ancestor as' (length fs) level)) (i.holder ∷ i.outer) =
    subst (λ os. Stands fs (height_of (ancestor as' (length fs) level)) (i.holder ∷ os)) fits.0
    (stands_as fs (height_of (ancestor as' (length fs) level)) r.own i.holder r.outer r.so (r.level_is ∙ sym at) labels
    r.stands) in
    record {
      chain = subst (λ os. Chain table (own ∷ os)) (sym outer) chain;
      stands =
          subst (λ o. Stands fs (height_of o) f.block.outer) (sym (newest_ancestor fs as' level e))
          (subst (Stands fs (height_of (ancestor as' (length fs) level))) (sym outer) stands);
    }
