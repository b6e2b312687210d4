-- A FIXED BINARY(31) scalar with a constant begins with it.
use Rattle.std.proofs.Common.{◌≡◌, ℕ, zero, suc, ◌+◌, ◌%◌, ◌<◌, ◌≤◌, List, [], ◌∷◌, ℤ, true, Some, refl, sym, ap}
use Rattle.std.proofs.Common.{subst, arith}
use Rattle.std.proofs.lemmas.Bool.{eq-eqb}
use Rattle.std.specs.Prelude.{cond}
use Rattle.rv_meaning.specs.declared.instr.Instr.{Instr}
use Rattle.pli_meaning.specs.BasicValues.{BasicNumber}
use Rattle.pli_meaning.specs.Making.{living_at}
use Rattle.pli_meaning.specs.Numbers.{is_of_precision}
use Rattle.pli_meaning.specs.StorageState.{living_of, newest_height}
use Rattle.storage_relation.specs.Standing.{IsValued, leaf_in}
use Rattle.storage_relation.specs.Telling.{IsOf}
use Rattle.activation_relation.specs.Layers.{Layer, Point}
use Rattle.activation_relation.specs.Points.{Surroundings}
use Rattle.activation_relation.specs.Variables.{with_made}
use Rattle.program_runs.specs.Initial.{MayBeMade}
use Rattle.program_runs.specs.Variables.{generation_for, made_of, place_behind}
use Rattle.initial_runs.specs.Numbers.{ConstantTold, HasRoom, constant_declared}

constant_valued :
    (index number place : ℕ) (z : ℤ) → is_of_precision 31 z ≡ true →
    IsValued (generation_for (constant_declared index number place z))
constant_valued index number place z fits leaf is less within = by_leaf leaf is less
  where
    by_leaf :
        (leaf : ℕ) (is : List ℤ) → leaf < 1 →
        IsOf (leaf_in (generation_for (constant_declared index number place z)) leaf).kind
        ((generation_for (constant_declared index number place z)).values leaf is)
    by_leaf zero is less = (omega arith, fits)
    by_leaf (suc leaf) is less = absurd (omega (arith, less))

pub constant_begins :
    (w : Surroundings) (code : List Instr) (p : Point) (index number place : ℕ) (z : ℤ) (φ : Layer)
    (φs : List Layer) → is_of_precision 31 z ≡ true → ConstantTold p.places.constants code w.links.data' z →
    HasRoom w p (constant_declared index number place z) φ φs →
    MayBeMade w code p (constant_declared index number place z) φ φs
constant_begins w code p index number place z φ φs small told h =
    let x = constant_declared index number place z in
    let counted = h.counted in
    let here = h.here in
    let even = h.even in
    let behind : place_behind w.parts x ≡ place + 32 = omega (arith, counted) in
    record {
      newest = h.newest;
      here = here;
      holds = omega (arith, behind);
      size = omega (arith, behind);
      fits = subst (λ n. φ.at + n ≤ φ.lower) (sym behind) h.fits;
      even = subst (λ n. (φ.at + n) % 16 ≡ 0) (sym behind) (omega (arith, here, even));
      low = h.low;
      shape = h.shape;
      number = h.number;
      initial = record {
        given = (((omega arith, (omega arith, small)), tt), tt);
        some = ((tt, tt), tt);
        few = omega arith;
        whole = told.list;
        values = ((told.behind, told.value), tt);
      };
      plain = refl;
      fixed = refl;
      values = (tt, tt);
      valued = constant_valued index number place z small;
      limit = h.limit;
    }

pub constant_lives :
    (w : Surroundings) (p : Point) (index number place : ℕ) (z : ℤ) (φ : Layer) →
    living_of (with_made (made_of w.parts φ (constant_declared index number place z)) p).state.living
    (p.state.serials + 1)
    ≡ Some (living_at (p.state.serials + 1) (newest_height p.state.activations)
    (generation_for (constant_declared index number place z)))
constant_lives w p index number place z φ =
    let serial = p.state.serials + 1 in
    let living = living_at serial (newest_height p.state.activations)
    (generation_for (constant_declared index number place z)) in
    ap (λ t. cond t (Some living) (living_of p.state.living serial)) (eq-eqb serial serial refl)

pub constant_held :
    (index number place : ℕ) (z : ℤ) →
    (generation_for (constant_declared index number place z)).values 0 [] ≡ BasicNumber z
constant_held index number place z = refl
