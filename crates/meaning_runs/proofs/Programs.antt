-- A well-formed program has what the walk over its runs asks for, and so its meaning is there.
use Rattle.std.proofs.Common.{◌≡◌, ℕ, zero, suc, ◌≤◌, List, [], ◌∷◌, Option, Some, None, refl, ap, sym}
use Rattle.std.proofs.Common.{subst}
use Rattle.std.proofs.Common.{arith}
use Rattle.std.specs.Prelude.{length, slice_get, unwrap_or}
use Rattle.pli_meaning.specs.declared.outcome.End.TheVariants as E
use Rattle.pli_typing.specs.Resolving.{typed_tree}
use Rattle.pli_typing.specs.TypedTree as Y
use Rattle.pli_meaning.specs.World.{World}
use Rattle.pli_meaning.specs.StorageState.{first_state}
use Rattle.pli_meaning.specs.Control.{Flow, Normal, Jump, Return, Ended, Paused, Stuck}
use Rattle.pli_meaning.specs.DeclaredShapes as D
use Rattle.pli_meaning.specs.Executing.{run, meaning, shown, is_own_return}
use Rattle.well_formed_trees.specs.Every.{Every}
use Rattle.well_formed_trees.specs.Surroundings.{Around, Table, Where, number_here, Returns, NoReturn}
use Rattle.well_formed_trees.specs.Declarations.{IsEvaluation, SoundVariables}
use Rattle.well_formed_trees.specs.WellFormed.{AcceptedWellFormed, IsWellFormed, SoundProcedure}
use Rattle.well_formed_trees.proofs.Lists.{every_map}
use Rattle.meaning_runs.proofs.Calling as P
use Rattle.meaning_runs.specs.Present.{IsOver, EndsOrPauses, NeverStuck, MeaningThere, AcceptedMeaningThere}
use Rattle.meaning_runs.proofs.Demands.{Comes, placed}
use Rattle.meaning_runs.proofs.Extents.{number_uncalled}
use Rattle.meaning_runs.proofs.Ways.{Whole, Declares, FineProcedure}
use Rattle.meaning_runs.proofs.Blocks.{at_start, run_there}

-- ---- procedures

procedure_is_fine : (p : Y.Program) (table : Table) (q : Y.Procedure) → SoundProcedure table p q
    → FineProcedure p table q
procedure_is_fine p table q s =
    record {
      block = record {
        head = s.head;
        body = s.body;
        is = s.is;
        outer = s.outer;
        returning = Returns q.result;
        statements = s.statements;
      };
      own = ap is_own_return s.kind;
      returning = refl;
      held = s.held;
      listed = s.listed;
    }

-- ---- variables

evaluations_uncalled : (w : Where) (index many : ℕ) (xs : List Y.Evaluation) → Every (IsEvaluation w index many) xs
    → Every (λ e. P.AllowedNumber P.NoCall e.value) xs
evaluations_uncalled w index many [] h = tt
evaluations_uncalled w index many (x ∷ xs) h =
    (number_uncalled (number_here w.around) index x.value h.0.early, evaluations_uncalled w index many xs h.1)

declare_sound : (p : Y.Program) (table : Table) (block : ℕ) (blocks : List Around) (index : ℕ)
    (ds : List Y.DeclaredVariable) → slice_get table block ≡ Some blocks
    → SoundVariables (placed p table blocks NoReturn) index ds → Every (Declares p table block) ds
declare_sound p table block blocks index [] e h = tt
declare_sound p table block blocks index (d ∷ ds) e h = (
  record {
    blocks = blocks;
    listed = e;
    sound = every_map _ _ (λ x e. e.value) d.evaluations h.0.evaluations;
    allowed =
        evaluations_uncalled (placed p table blocks NoReturn) index (length d.evaluations) d.evaluations
        h.0.evaluations;
    members = h.0.members;
    areas = h.0.areas;
    initial = every_map _ _ (λ l i. i.initial_is) d.leaves h.0.leaves;
    refer = h.0.refer;
    dimensions = h.0.dimensions;
  },
  declare_sound p table block blocks (suc index) ds e h.1,
)

-- what isn't in one list isn't in another that is as long
none_there : {X Z : Type 0} (xs : List X) (ys : List Z) (n : ℕ) → length xs ≡ length ys → slice_get ys n ≡ None
    → slice_get xs n ≡ None
none_there [] ys n e h = refl
none_there (x ∷ xs) [] n e h = absurd (omega (arith, e))
none_there (x ∷ xs) (y ∷ ys) zero e h = absurd (cc h)
none_there (x ∷ xs) (y ∷ ys) (suc n) e h = none_there xs ys n (omega (arith, e)) h

declared_sound : (p : Y.Program) (h : IsWellFormed p) (number : ℕ)
    → Every (Declares p h.table number) (D.variables_of_block p number)
declared_sound p h number = of_entry (slice_get h.table number) refl
  where
    of_entry : (o : Option (List Around)) → slice_get h.table number ≡ o
        → Every (Declares p h.table number) (D.variables_of_block p number)
    of_entry None e =
        subst (λ o. Every (Declares p h.table number) (unwrap_or o []))
        (sym (none_there p.variables h.table number h.lists e)) tt
    of_entry (Some blocks) e =
        declare_sound p h.table number blocks 0 (D.variables_of_block p number) e (h.variables number blocks e)

whole_sound : (p : Y.Program) (h : IsWellFormed p) → Whole p h.table
whole_sound p h =
    record {
      declares = declared_sound p h;
      procedures =
          every_map (SoundProcedure h.table p) (FineProcedure p h.table)
          (λ q s. procedure_is_fine p h.table q s) p.procedures h.procedures;
    }

-- ---- the laws

ends_or_pauses : (p : Y.Program) (table : Table) (acts k : ℕ) (f : Flow (Unit {0}))
    → Comes (at_start p table) (λ r. ⊥) 0 1 acts k f → EndsOrPauses k f
ends_or_pauses p table acts k (Normal r s) h = absurd h.1.1.1
ends_or_pauses p table acts k (Jump height label s) h = absurd h.1.1.1
ends_or_pauses p table acts k (Return v s) h = absurd h.1.1.1
ends_or_pauses p table acts k (Ended s) h = h
ends_or_pauses p table acts k (Paused s) h = h
ends_or_pauses p table acts k Stuck h = absurd h

pub never_stuck : NeverStuck
never_stuck p input k h =
    ends_or_pauses p h.table 0 k (run p (suc k) k (first_state input))
    ((run_there p h.table (whole_sound p h) h.main (suc k) k (omega arith)).comes k
    (first_state input) (omega arith) (omega arith) ((tt, (tt, ((tt, (tt, tt)), (tt, (tt, λ o. omega arith))))), refl))

-- what a flow shows
record Shows (k : ℕ) (f : Flow (Unit {0})) : Type 0 where
  world : World
  is : shown f ≡ Some world
  few : world.acts ≤ k
  going_on : world.end ≡ E.Running → world.acts ≡ k

shows : (k : ℕ) (f : Flow (Unit {0})) → EndsOrPauses k f → Shows k f
shows k (Normal r s) h = absurd h
shows k (Jump height label s) h = absurd h
shows k (Return v s) h = absurd h
shows k (Ended s) h =
    record { world = s.world; is = refl; few = h.0; going_on = λ e. absurd (subst IsOver e h.1) }
shows k (Paused s) h = record { world = s.world; is = refl; few = omega (arith, h); going_on = λ e. h }
shows k Stuck h = absurd h

pub meaning_there : MeaningThere
unfolding meaning
meaning_there p input k h =
    let f = shows k (run p (suc k) k (first_state input)) (never_stuck p input k h) in
    record { world = f.world; meant = f.is; few = f.few; going_on = f.going_on }

pub accepted_meaning_there : AcceptedWellFormed → AcceptedMeaningThere
accepted_meaning_there law s tokens tree t p d e input k =
    meaning_there (typed_tree tree) input k (law s tokens tree t p d e)
