-- A parameter of a block is one of it and of what is called from it.
use Rattle.std.proofs.Common.{◌≡◌, inl, inr, ℕ, suc, ◌+◌, ◌*◌, ◌^◌, ◌<◌, ◌≤◌, List, length, Option, Some}
use Rattle.std.proofs.Common.{false, refl, sym, ap, ◌∙◌, subst, arith}
use Rattle.std.proofs.lemmas.Bool.{eq-eqb, eqb-true}
use Rattle.std.specs.Prelude.{cond, ◌==◌}
use Rattle.pli_meaning.specs.DeclaredShapes.{declared_variable}
use Rattle.pli_meaning.specs.StorageState.{Living, ancestor, ancestor_at, binding_in, height_of, living_of}
use Rattle.pli_meaning.specs.StorageState.{newest_height}
use Rattle.pli_coding.specs.Environments.{Environment}
use Rattle.pli_coding.specs.Locating.{number_of_parameter}
use Rattle.storage_relation.proofs.Holders.{eqb-other}
use Rattle.storage_relation.proofs.Placing.{none_above}
use Rattle.activation_relation.specs.Chains.{frame_at}
use Rattle.activation_relation.specs.CodeStores.{most_levels}
use Rattle.activation_relation.specs.Frames.{frame_under}
use Rattle.activation_relation.specs.Layers.{Layer, Point}
use Rattle.activation_relation.specs.Remaining.{LivesOn, Remains}
use Rattle.activation_relation.proofs.Blocks.{same_length}
use Rattle.activation_relation.proofs.Displays.{ancestor_low}
use Rattle.activation_relation.proofs.Remaining.{remains_then, shapes_remain}
use Rattle.activation_relation.proofs.Units.{frame_below}
use Rattle.block_runs.specs.Bodies.{Function}
use Rattle.program_runs.specs.Calls.{AreMade, Callee, block_at}
use Rattle.program_runs.specs.Statements.{Block, IsAmong, IsBegun, own_height}
use Rattle.program_runs.proofs.NewestBlocks.{newest_at, own_ancestor}
use Rattle.expression_runs.specs.Variables.{IsFrameOf, Spot}
use Rattle.function_runs.specs.Functions.{function_block}
use Rattle.argument_runs.specs.Parameters.{IsParameter, parameter_of, parameter_shape}
use Rattle.nested_calls.specs.Nested.{IsNested, parent_at}
use Rattle.nested_calls.specs.NestedVariables.{IsInside}
use Rattle.nested_calls.proofs.NestedVariables.{Over, function_over, procedure_over, same_ancestor}
use Rattle.list_calls.specs.ListCalls.{Listed, called_with}
use Rattle.list_calls.specs.ListKnown.{Begins}
use Rattle.list_calls.specs.Lists.{Passing}
use Rattle.list_calls.specs.Taking.{bound_waits, list_block}
use Rattle.list_calls.proofs.ListKnown.{list_over}
use Rattle.parameter_runs.specs.Around.{Entry, HasListed, IsParameterAround}
use Rattle.parameter_runs.proofs.Passing.{listed_told}

-- ---- of the block itself

pub own_around : (k : Block) (x : Spot) → IsParameter k x → IsParameterAround k x
own_around k x is =
    let r : Entry = record {
      serial = is.serial;
      signature = is.signature;
      place = is.place;
      at = is.at;
      last = is.last;
    } in
    record {
      begun = is.begun;
      declared = is.declared;
      entry = r;
      numbered_so = is.numbered_so;
      near = is.near;
      binding = is.binding;
      living = is.living;
      lives = is.lives;
      shape = is.shape;
      base = is.layer.at;
      frame = inl (is.own, ap (λ ls. frame_under k.call.surroundings.parts ls) (sym is.layers));
      listed =
          subst (λ ls. HasListed ls is.layer.at x.level r) (sym is.layers)
          (inl (
            refl,
            record { list = is.list; level_is = is.level; under = is.under; name = is.name; words = is.words },
          ));
      few = is.few;
      small = is.small;
      number = is.number;
      numbered = is.numbered;
      low = is.low;
      inside = is.inside;
    }

-- ---- in what is called

-- the frame of a level around is that which it was for the block below
below_frame :
    {k : Block} {numbers : ℕ → ℕ} {p : Point} (level base : ℕ) → IsNested k → IsBegun k → IsAmong k numbers p →
    IsFrameOf k level base →
    (0 < parent_at k level) × (base ≡ frame_at k.first.control.layers (parent_at k level))
below_frame {k} {p = p} level base nest b o (inl own) =
    let n = newest_at b o in
    let parts = k.call.surroundings.parts in
    let φs = k.call.point.control.layers in
    let same : level ≡ k.environment.level = eqb-true level k.environment.level own.0 in
    let height : parent_at k level ≡ own_height k =
    ap (λ xs. height_of (ancestor xs (newest_height xs) level)) (sym o.later.activations)
    ∙ ap (λ j. height_of (ancestor_at p.state j)) same ∙ own_ancestor nest.own n in
    let many = n.many in
    let newest : own_height k ≡ suc (length φs) = omega (arith, many) in
    let there : frame_at p.control.layers (own_height k) ≡ frame_under parts p.control.layers =
    subst (λ ls. frame_at ls (own_height k) ≡ frame_under parts ls) (sym n.layers)
    (ap (λ q. cond q n.layer.at (frame_at φs (own_height k))) (eq-eqb (own_height k) (suc (length φs)) newest)) in (
      omega (arith, height),
      own.1
          ∙ sym (subst (λ ls. frame_at ls (own_height k) ≡ frame_under parts ls) o.later.layers there)
          ∙ ap (λ j. frame_at k.first.control.layers j) (sym height),
    )
below_frame level base nest b o (inr outer) = (outer.2, outer.4)

-- what stays so for what a parameter of a level around stands for, and its frame
record Stays (k inner : Block) (level serial base : ℕ) (living : Living) : Type 0 where
  same : ancestor_at inner.first.state level ≡ ancestor_at k.first.state level
  on : LivesOn living (living_of inner.first.state.living serial)
  moved : inner.first.places.at serial ≡ k.first.places.at serial
  frame : IsFrameOf inner level base
  to : Remains k.first inner.first

over_stays :
    {k inner : Block} {level : ℕ} {numbers : ℕ → ℕ} {p : Point} (n serial base : ℕ) (living : Living) →
    Over k inner level p → IsNested k → IsBegun k → IsAmong k numbers p → level ≤ k.environment.level → n ≤ level →
    living_of k.first.state.living serial ≡ Some living → IsFrameOf k n base → Stays k inner n serial base living
over_stays {k} {inner} {level} {p = p} n serial base living i nest b o within less lives is =
    record {
      same = same;
      on = to.living serial living lives;
      moved = to.at serial (omega (arith, low));
      frame = inr (other, inside, above, subst (λ j. j < most_levels) (sym i.layer_level) i.few, frame);
      to = to;
    }
  where
    φs : List Layer
    φs = p.control.layers

    same : ancestor_at inner.first.state n ≡ ancestor_at k.first.state n
    same = same_ancestor n i nest o within less

    to : Remains k.first inner.first
    to = remains_then k.first p inner.first o.later.remains i.remains

    low : serial < k.first.state.serials + 1
    low = none_above (k.first.state.serials + 1) k.first.state.living serial living b.resumes.stands.lives.falling lives

    inside : n < inner.call.beginning.layer.level
    inside = let e = i.layer_level in omega (arith, e, less)

    other : (n == inner.environment.level) ≡ false
    other = let code = i.code in eqb-other n inner.environment.level (omega (arith, code, less))

    below : (0 < parent_at k n) × (base ≡ frame_at k.first.control.layers (parent_at k n))
    below = below_frame n base nest b o is

    above : 0 < height_of (ancestor_at inner.first.state n)
    above = subst (λ a. 0 < height_of a) (sym same) below.0

    high : parent_at k n ≤ length φs
    high =
        let short = ancestor_low k.call.surroundings.units p.state.activations φs (newest_height p.state.activations)
        n o.stands.active in
        let many = same_length k.call.surroundings.units p.state.activations φs o.stands.active in
        let e = ap (λ xs. height_of (ancestor xs (newest_height xs) n)) o.later.activations in
        omega (arith, short, many, e)

    frame : base ≡ frame_at inner.first.control.layers (height_of (ancestor_at inner.first.state n))
    frame =
        below.1
        ∙ ap (λ ls. frame_at ls (parent_at k n)) (sym o.later.layers)
        ∙ sym (i.frames (parent_at k n))
        ∙ sym (frame_below i.layer i.below (parent_at k n) (let many = i.many in omega (arith, high, many)))
        ∙ ap (λ ls. frame_at ls (parent_at k n)) (sym i.layers)
        ∙ ap (λ a. frame_at inner.first.control.layers (height_of a)) (sym same)

-- its place among the parameters of its block is the same one
same_number :
    (e f : Environment) (x : Spot) → e.program ≡ f.program →
    number_of_parameter e (parameter_of x) ≡ number_of_parameter f (parameter_of x)
same_number e f x program =
    ap (λ y. number_of_parameter (record e { program = y }) (parameter_of x)) program

-- the layers below the new one have the lists that those of the block had
pub over_around :
    {k inner : Block} {level : ℕ} {numbers : ℕ → ℕ} {p : Point} (x : Spot) (i : Over k inner level p) → IsNested k →
    IsBegun k → IsAmong k numbers p → IsBegun inner → level ≤ k.environment.level → x.level ≤ level →
    inner.environment.program ≡ k.environment.program →
    ((frame : ℕ) (r : Entry) → HasListed p.control.layers frame x.level r → HasListed i.below frame x.level r) →
    IsParameterAround k x → IsParameterAround inner x
over_around {k} {inner} x i nest b o b' within less program below is =
    let r = is.entry in
    let s = over_stays x.level r.serial is.base is.living i nest b o within less is.lives is.frame in
    let there = below is.base r (subst (λ ls. HasListed ls is.base x.level r) (sym o.later.layers) is.listed) in
    record {
      begun = b';
      declared = ap (λ y. declared_variable y (parameter_of x)) program ∙ is.declared;
      entry = r;
      numbered_so = same_number inner.environment k.environment x program ∙ is.numbered_so;
      near = is.near;
      binding = ap (λ a. binding_in a x.index) s.same ∙ is.binding;
      living = s.on.there;
      lives = s.on.lives;
      shape = s.on.shape ∙ is.shape;
      base = is.base;
      frame = s.frame;
      listed = subst (λ ls. HasListed ls is.base x.level r) (sym i.layers) (inr there);
      few = is.few;
      small = is.small;
      number = is.number;
      numbered = shapes_remain s.to r.signature parameter_shape is.numbered;
      low = subst (λ n. 2 ^ 22 ≤ n) (sym s.moved) is.low;
      inside = subst (λ n. n + 4 ≤ 15 * 2 ^ 20) (sym s.moved) is.inside;
    }

pub inner_around :
    (k : Block) (c : Callee) (level : ℕ) (x : Spot) → IsInside k c level → x.level ≤ level →
    IsParameterAround k x → (p : Point) (numbers : ℕ → ℕ) → IsAmong k numbers p →
    AreMade k.call.surroundings k.call.code c p numbers →
    IsBegun (block_at k.call.surroundings k.call.code c p numbers) →
    IsParameterAround (block_at k.call.surroundings k.call.code c p numbers) x
unfolding procedure_over
inner_around k c level x h less is p numbers o made b =
    over_around {k = k} {inner = block_at k.call.surroundings k.call.code c p numbers} {numbers = numbers} x
    (procedure_over k c level h p numbers o made b) h.nested h.begun o b h.around_it less h.program
    (λ frame r listed. listed) is

pub function_around :
    (k : Block) (c : Callee) (level : ℕ) (x : Spot) → IsInside k c level → x.level ≤ level →
    IsParameterAround k x → (p : Point) (numbers : ℕ → ℕ) → IsAmong k numbers p →
    AreMade k.call.surroundings k.call.code c p numbers →
    IsBegun (function_block k.call.surroundings k.call.code c p numbers) →
    IsParameterAround (function_block k.call.surroundings k.call.code c p numbers) x
unfolding function_over
function_around k c level x h less is p numbers o made b =
    over_around {k = k} {inner = function_block k.call.surroundings k.call.code c p numbers} {numbers = numbers} x
    (function_over k c level h p numbers o made b) h.nested h.begun o b h.around_it less h.program
    (λ frame r listed. listed) is

pub list_around :
    (g : Option Function) (k : Block) (u : Listed) (more : ℕ) (p : Point) (numbers : ℕ → ℕ) (ys : List Passing)
    (x : Spot) → Begins g k u more p numbers ys → x.level ≤ u.level → IsParameterAround k x →
    IsParameterAround (list_block g (called_with k u p numbers ys) u.made) x
unfolding list_over
list_around g k u more p numbers ys x h less is =
    let y = called_with k u p numbers ys in
    let newest = h.among.later.layers ∙ h.declared.space.newest in
    over_around {k = k} {inner = list_block g y u.made} {numbers = numbers} x
    (list_over g k u more p numbers ys h) h.declared.nested h.declared.begun h.among h.begun h.declared.around_it less
    h.inner.program
    (λ frame r listed.
    listed_told (bound_waits y) u.layer u.others frame x.level r
    (subst (λ ls. HasListed ls frame x.level r) newest listed)) is
