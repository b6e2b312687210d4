-- Static ancestors and variables of a block in what is called from it: the same ones, in frames that its display has.
use Rattle.std.proofs.Common.{◌≡◌, ℕ, suc, ◌+◌, ◌*◌, ◌^◌, ◌<◌, ◌≤◌, List, [], ◌∷◌, length, Some, true, false, inl}
use Rattle.std.proofs.Common.{inr, refl, sym, ap, ◌∙◌, subst, arith}
use Rattle.std.proofs.lemmas.Bool.{eq-eqb, eqb-true, leb-true}
use Rattle.std.proofs.lemmas.Bool.Decides.{nat_tests}
use Rattle.std.specs.Prelude.{Bool, cond, ◌==◌, nat_le}
use Rattle.pli_typing.specs.Signatures.{data_size}
use Rattle.pli_typing.specs.TypedTree as Y
use Rattle.pli_meaning.specs.DeclaredShapes.{declared_variable, shape_of}
use Rattle.pli_meaning.specs.StorageState.{Activation, Living, ancestor, ancestor_at, binding_in, height_of}
use Rattle.pli_meaning.specs.StorageState.{living_of, newest_height}
use Rattle.pli_coding.specs.Environments.{Environment}
use Rattle.pli_coding.specs.Frames.{name_bytes}
use Rattle.storage_relation.proofs.Holders.{eqb-other, eqb-refl}
use Rattle.storage_relation.proofs.Placing.{none_above}
use Rattle.activation_relation.specs.Chains.{AreActive, frame_at}
use Rattle.activation_relation.specs.CodeStores.{most_levels}
use Rattle.activation_relation.specs.Frames.{frame_under}
use Rattle.activation_relation.specs.Landing.{resumed, with_units}
use Rattle.activation_relation.specs.Layers.{Layer, Point}
use Rattle.activation_relation.specs.Remaining.{LivesOn, Remains}
use Rattle.activation_relation.proofs.Blocks.{same_length}
use Rattle.activation_relation.proofs.Displays.{ancestor_low}
use Rattle.activation_relation.proofs.Remaining.{remains_then}
use Rattle.activation_relation.proofs.Units.{frame_below}
use Rattle.program_runs.specs.Calls.{AreMade, Callee, block_at}
use Rattle.program_runs.specs.Procedures.{layer_for}
use Rattle.program_runs.specs.Statements.{Block, IsAmong, IsBegun, own_height}
use Rattle.program_runs.proofs.NewestBlocks.{newest_at, own_ancestor}
use Rattle.expression_runs.specs.Variables.{IsFrameOf, IsNumber, Spot, number_place, variable_of}
use Rattle.variable_runs.specs.Known.{IsKnown, place_of}
use Rattle.function_runs.specs.Functions.{function_block}
use Rattle.nested_calls.specs.Nested.{IsNested, parent_at}
use Rattle.nested_calls.specs.NestedVariables.{IsInside}

-- ---- ancestors where a block has been entered

-- those of the new activation above its own level are those of its parent
ancestor_above :
    (a : Activation) (as' : List Activation) (n : ℕ) → (a.level == n) ≡ false →
    ancestor (a ∷ as') a.height n ≡ ancestor as' a.parent n
ancestor_above a as' n other =
    ap (λ q. cond q (cond (a.level == n) (Some a) (ancestor as' a.parent n)) (ancestor as' a.height n))
    (eqb-refl a.height)
    ∙ ap (λ q. cond q (Some a) (ancestor as' a.parent n)) other

-- its own level has itself
pub ancestor_itself :
    (a : Activation) (as' : List Activation) (n : ℕ) → a.level ≡ n → ancestor (a ∷ as') a.height n ≡ Some a
ancestor_itself a as' n e =
    ap (λ q. cond q (cond (a.level == n) (Some a) (ancestor as' a.parent n)) (ancestor as' a.height n))
    (eqb-refl a.height)
    ∙ ap (λ q. cond q (Some a) (ancestor as' a.parent n)) (eq-eqb a.level n e)

-- and those of the activations below it are as they were
ancestor_under :
    (a : Activation) (as' : List Activation) (height n : ℕ) → (a.height == height) ≡ false →
    ancestor (a ∷ as') height n ≡ ancestor as' height n
ancestor_under a as' height n other =
    ap (λ q. cond q (cond (a.level == n) (Some a) (ancestor as' a.parent n)) (ancestor as' height n)) other

-- ---- a block over one from which it is called, declared by an ancestor of that

-- below its own layer stand the frames that stood there
pub record Over (k inner : Block) (level : ℕ) (p : Point) : Type 0 where
  pub activation : Activation
  pub layer : Layer
  pub below : List Layer
  pub active : inner.first.state.activations ≡ activation ∷ p.state.activations
  pub layers : inner.first.control.layers ≡ layer ∷ below
  pub frames : (n : ℕ) → frame_at below n ≡ frame_at p.control.layers n
  pub many : length below ≡ length p.control.layers
  pub height : activation.height ≡ suc (length p.state.activations)
  pub inside : activation.level ≡ suc level
  pub parent : activation.parent ≡ parent_at k level
  pub remains : Remains p inner.first
  pub code : inner.environment.level ≡ suc level
  pub layer_level : inner.call.beginning.layer.level ≡ suc level
  pub few : suc level < most_levels

pub same_ancestor :
    {k inner : Block} {level : ℕ} {numbers : ℕ → ℕ} {p : Point} (n : ℕ) → Over k inner level p → IsNested k →
    IsAmong k numbers p → level ≤ k.environment.level → n ≤ level →
    ancestor_at inner.first.state n ≡ ancestor_at k.first.state n
same_ancestor {k} {level = level} {p = p} n i nest o within less =
    let inside = i.inside in
    ap (λ xs. ancestor xs (newest_height xs) n) i.active
    ∙ ancestor_above i.activation p.state.activations n (eqb-other i.activation.level n (omega (arith, inside, less)))
    ∙ ap (λ height. ancestor p.state.activations height n) i.parent
    ∙ ap (λ xs. ancestor xs (parent_at k level) n) o.later.activations
    ∙ nest.same level n less within

own_one :
    {k inner : Block} {level : ℕ} {p : Point} (n : ℕ) (i : Over k inner level p) → n ≡ suc level →
    ancestor_at inner.first.state n ≡ Some i.activation
own_one {p = p} n i e =
    ap (λ xs. ancestor xs (newest_height xs) n) i.active
    ∙ ancestor_itself i.activation p.state.activations n (i.inside ∙ sym e)

pub over_nested :
    {k inner : Block} {level : ℕ} {numbers : ℕ → ℕ} {p : Point} → Over k inner level p → IsNested k →
    IsAmong k numbers p → level ≤ k.environment.level → IsNested inner
over_nested {k} {inner} {level} {p = p} i nest o within =
    record {
      own = i.code ∙ sym i.layer_level;
      few = subst (λ n. n < most_levels) (sym i.code) i.few;
      some = λ n less. some_by n (nat_le n level) refl less;
      same = λ outer n less high. same_by outer n (nat_le outer level) refl less high;
    }
  where
    as' : List Activation
    as' = p.state.activations

    -- it is the last level, or one of those around
    last : (n : ℕ) → nat_le n level ≡ false → n ≤ inner.environment.level → n ≡ suc level
    last n e less =
        let code = i.code in
        let high : level < n = grind (arith, nat_tests) in
        omega (arith, code, high, less)

    some_by :
        (n : ℕ) (q : Bool) → nat_le n level ≡ q → n ≤ inner.environment.level →
        0 < height_of (ancestor_at inner.first.state n)
    some_by n true e less =
        let low = leb-true n level e in
        subst (λ a. 0 < height_of a) (sym (same_ancestor n i nest o within low))
        (nest.some n (omega (arith, low, within)))
    some_by n false e less =
        let height = i.height in
        subst (λ a. 0 < height_of a) (sym (own_one n i (last n e less))) (omega (arith, height))

    same_by :
        (outer n : ℕ) (q : Bool) → nat_le outer level ≡ q → n ≤ outer → outer ≤ inner.environment.level →
        ancestor inner.first.state.activations (height_of (ancestor_at inner.first.state outer)) n
        ≡ ancestor_at inner.first.state n
    same_by outer n true e less high =
        let low = leb-true outer level e in
        let found = parent_at k outer in
        let there = same_ancestor outer i nest o within low in
        let short = ancestor_low k.call.surroundings.units as' p.control.layers (newest_height as') outer
        o.stands.active in
        let later = ap (λ xs. height_of (ancestor xs (newest_height xs) outer)) o.later.activations in
        let height = i.height in
        ap (λ a. ancestor inner.first.state.activations (height_of a) n) there
        ∙ ap (λ xs. ancestor xs found n) i.active
        ∙ ancestor_under i.activation as' found n
        (eqb-other i.activation.height found (omega (arith, height, short, later)))
        ∙ ap (λ xs. ancestor xs found n) o.later.activations
        ∙ nest.same outer n less (omega (arith, low, within))
        ∙ sym (same_ancestor n i nest o within (omega (arith, less, low)))
    same_by outer n false e less high =
        ap (λ a. ancestor inner.first.state.activations (height_of a) n) (own_one outer i (last outer e high))
        ∙ ap (λ xs. ancestor xs i.activation.height n) i.active
        ∙ sym (ap (λ xs. ancestor xs (newest_height xs) n) i.active)

-- ---- variables

-- the frame of a level around is that which it was for the block below
below_frame :
    {k : Block} {numbers : ℕ → ℕ} {p : Point} (level base : ℕ) → IsNested k → IsBegun k → IsAmong k numbers p →
    IsFrameOf k level base →
    (0 < parent_at k level) × (base ≡ frame_at k.first.control.layers (parent_at k level))
below_frame {k} {p = p} level base nest b o (inl own) =
    let n = newest_at b o in
    let parts = k.call.surroundings.parts in
    let φs = k.call.point.control.layers in
    let same : level ≡ k.environment.level = eqb-true level k.environment.level own.0 in
    let height : parent_at k level ≡ own_height k =
    ap (λ xs. height_of (ancestor xs (newest_height xs) level)) (sym o.later.activations)
    ∙ ap (λ j. height_of (ancestor_at p.state j)) same ∙ own_ancestor nest.own n in
    let many = n.many in
    let newest : own_height k ≡ suc (length φs) = omega (arith, many) in
    let there : frame_at p.control.layers (own_height k) ≡ frame_under parts p.control.layers =
    subst (λ ls. frame_at ls (own_height k) ≡ frame_under parts ls) (sym n.layers)
    (ap (λ q. cond q n.layer.at (frame_at φs (own_height k))) (eq-eqb (own_height k) (suc (length φs)) newest)) in (
      omega (arith, height),
      own.1
          ∙ sym (subst (λ ls. frame_at ls (own_height k) ≡ frame_under parts ls) o.later.layers there)
          ∙ ap (λ j. frame_at k.first.control.layers j) (sym height),
    )
below_frame level base nest b o (inr outer) = (outer.2, outer.4)

-- what stays so for what a variable of a level around stands for, and its frame
record Stays (k inner : Block) (level serial base : ℕ) (living : Living) : Type 0 where
  same : ancestor_at inner.first.state level ≡ ancestor_at k.first.state level
  on : LivesOn living (living_of inner.first.state.living serial)
  moved : inner.first.places.at serial ≡ k.first.places.at serial
  frame : IsFrameOf inner level base

over_stays :
    {k inner : Block} {level : ℕ} {numbers : ℕ → ℕ} {p : Point} (n serial base : ℕ) (living : Living) →
    Over k inner level p → IsNested k → IsBegun k → IsAmong k numbers p → level ≤ k.environment.level → n ≤ level →
    living_of k.first.state.living serial ≡ Some living → IsFrameOf k n base → Stays k inner n serial base living
over_stays {k} {inner} {level} {p = p} n serial base living i nest b o within less lives is =
    record {
      same = same;
      on = to.living serial living lives;
      moved = to.at serial (omega (arith, low));
      frame = inr (other, inside, above, subst (λ j. j < most_levels) (sym i.layer_level) i.few, frame);
    }
  where
    φs : List Layer
    φs = p.control.layers

    same : ancestor_at inner.first.state n ≡ ancestor_at k.first.state n
    same = same_ancestor n i nest o within less

    to : Remains k.first inner.first
    to = remains_then k.first p inner.first o.later.remains i.remains

    low : serial < k.first.state.serials + 1
    low = none_above (k.first.state.serials + 1) k.first.state.living serial living b.resumes.stands.lives.falling lives

    inside : n < inner.call.beginning.layer.level
    inside = let e = i.layer_level in omega (arith, e, less)

    other : (n == inner.environment.level) ≡ false
    other = let code = i.code in eqb-other n inner.environment.level (omega (arith, code, less))

    below : (0 < parent_at k n) × (base ≡ frame_at k.first.control.layers (parent_at k n))
    below = below_frame n base nest b o is

    above : 0 < height_of (ancestor_at inner.first.state n)
    above = subst (λ a. 0 < height_of a) (sym same) below.0

    high : parent_at k n ≤ length φs
    high =
        let short = ancestor_low k.call.surroundings.units p.state.activations φs (newest_height p.state.activations)
        n o.stands.active in
        let many = same_length k.call.surroundings.units p.state.activations φs o.stands.active in
        let e = ap (λ xs. height_of (ancestor xs (newest_height xs) n)) o.later.activations in
        omega (arith, short, many, e)

    frame : base ≡ frame_at inner.first.control.layers (height_of (ancestor_at inner.first.state n))
    frame =
        below.1
        ∙ ap (λ ls. frame_at ls (parent_at k n)) (sym o.later.layers)
        ∙ sym (i.frames (parent_at k n))
        ∙ sym (frame_below i.layer i.below (parent_at k n) (let many = i.many in omega (arith, high, many)))
        ∙ ap (λ ls. frame_at ls (parent_at k n)) (sym i.layers)
        ∙ ap (λ a. frame_at inner.first.control.layers (height_of a)) (sym same)

-- its code looks for one at the same place
pub same_place :
    (e f : Environment) (x : Spot) → e.program ≡ f.program → e.parts ≡ f.parts → place_of e x ≡ place_of f x
same_place e f x program parts =
    ap (λ y. place_of (record e { program = y }) x) program ∙ ap (λ y. place_of (record f { parts = y }) x) parts

-- a number of a level around is one there, with the same serial number, in the same frame
pub record Again (inner : Block) (x : Spot) (serial base : ℕ) : Type 0 where
  pub number : IsNumber inner x
  pub serial_is : number.serial ≡ serial
  pub base_is : number.base ≡ base

pub over_again :
    {k inner : Block} {level : ℕ} {numbers : ℕ → ℕ} {p : Point} (x : Spot) → Over k inner level p → IsNested k →
    IsBegun k → IsAmong k numbers p → level ≤ k.environment.level → x.level ≤ level →
    inner.environment.program ≡ k.environment.program → inner.environment.parts ≡ k.environment.parts →
    (is : IsNumber k x) → Again inner x is.serial is.base
over_again {k} {inner} x i nest b o within less program parts is =
    let s = over_stays x.level is.serial is.base is.living i nest b o within less is.lives is.frame in
    let place : number_place inner.environment x ≡ number_place k.environment x =
    ap (λ n. n + 16 + 0) (same_place inner.environment k.environment x program parts) in
    record {
      number = record {
        initial = is.initial;
        declared = ap (λ y. declared_variable y (variable_of x)) program ∙ is.declared;
        serial = is.serial;
        binding = ap (λ a. binding_in a x.index) s.same ∙ is.binding;
        living = s.on.there;
        lives = s.on.lives;
        shape = s.on.shape ∙ is.shape;
        base = is.base;
        frame = s.frame;
        at = s.moved ∙ is.at ∙ ap (λ n. is.base + n) (sym place);
        low = subst (λ n. 2 ^ 22 ≤ is.base + n) (sym place) is.low;
        inside = subst (λ n. is.base + n + 4 ≤ 15 * 2 ^ 20) (sym place) is.inside;
      };
      serial_is = refl;
      base_is = refl;
    }

pub over_number :
    {k inner : Block} {level : ℕ} {numbers : ℕ → ℕ} {p : Point} (x : Spot) → Over k inner level p → IsNested k →
    IsBegun k → IsAmong k numbers p → level ≤ k.environment.level → x.level ≤ level →
    inner.environment.program ≡ k.environment.program → inner.environment.parts ≡ k.environment.parts → IsNumber k x →
    IsNumber inner x
over_number {k} {inner} {numbers = numbers} x i nest b o within less program parts is =
    (over_again {k = k} {inner = inner} {numbers = numbers} x i nest b o within less program parts is).number

pub over_known :
    {k inner : Block} {level : ℕ} {numbers : ℕ → ℕ} {p : Point} (x : Spot) (d : Y.DeclaredVariable) →
    Over k inner level p → IsNested k → IsBegun k → IsAmong k numbers p → level ≤ k.environment.level →
    x.level ≤ level → inner.environment.program ≡ k.environment.program →
    inner.environment.parts ≡ k.environment.parts → IsKnown k x d → IsKnown inner x d
over_known {k} {inner} x d i nest b o within less program parts is =
    let s = over_stays x.level is.serial is.base is.living i nest b o within less is.lives is.frame in
    let place = same_place inner.environment k.environment x program parts in
    record {
      declared = ap (λ y. declared_variable y (variable_of x)) program ∙ is.declared;
      serial = is.serial;
      binding = ap (λ a. binding_in a x.index) s.same ∙ is.binding;
      living = s.on.there;
      lives = s.on.lives;
      shape = s.on.shape ∙ is.shape;
      base = is.base;
      frame = s.frame;
      at = s.moved ∙ is.at ∙ ap (λ n. is.base + (n + name_bytes)) (sym place);
      low = is.low;
      inside =
          subst (λ n. is.base + (n + name_bytes + data_size (shape_of [] d).signature) ≤ 15 * 2 ^ 20) (sym place)
          is.inside;
    }

-- ---- what is called

unfoldable pub procedure_over :
    (k : Block) (c : Callee) (level : ℕ) → IsInside k c level → (p : Point) (numbers : ℕ → ℕ) → IsAmong k numbers p →
    AreMade k.call.surroundings k.call.code c p numbers →
    IsBegun (block_at k.call.surroundings k.call.code c p numbers) →
    Over k (block_at k.call.surroundings k.call.code c p numbers) level p
procedure_over k c level h p numbers o made b =
    let inner = block_at k.call.surroundings k.call.code c p numbers in
    let φ = resumed made.changed (layer_for k.call.surroundings p numbers c.procedure c.calling) in
    let a = with_units made.own made.activation in
    let active : AreActive k.call.surroundings.units (a ∷ p.state.activations) (φ ∷ p.control.layers) =
    subst (λ xs. AreActive k.call.surroundings.units xs (φ ∷ p.control.layers)) made.activations
    (subst (λ ls. AreActive k.call.surroundings.units inner.first.state.activations ls) made.layers
    b.resumes.stands.active) in
    record {
      activation = a;
      layer = φ;
      below = p.control.layers;
      active = made.activations;
      layers = made.layers;
      frames = λ n. refl;
      many = refl;
      height = active.0.height;
      inside = active.0.level ∙ h.inner;
      parent = made.parent ∙ h.parent;
      remains = b.remains;
      code = h.code ∙ h.inner;
      layer_level = h.inner;
      few = subst (λ n. n < most_levels) h.inner h.few;
    }

unfoldable pub function_over :
    (k : Block) (c : Callee) (level : ℕ) → IsInside k c level → (p : Point) (numbers : ℕ → ℕ) → IsAmong k numbers p →
    AreMade k.call.surroundings k.call.code c p numbers →
    IsBegun (function_block k.call.surroundings k.call.code c p numbers) →
    Over k (function_block k.call.surroundings k.call.code c p numbers) level p
function_over k c level h p numbers o made b =
    let inner = function_block k.call.surroundings k.call.code c p numbers in
    let φ = resumed made.changed (layer_for k.call.surroundings p numbers c.procedure c.calling) in
    let a = with_units made.own made.activation in
    let active : AreActive k.call.surroundings.units (a ∷ p.state.activations) (φ ∷ p.control.layers) =
    subst (λ xs. AreActive k.call.surroundings.units xs (φ ∷ p.control.layers)) made.activations
    (subst (λ ls. AreActive k.call.surroundings.units inner.first.state.activations ls) made.layers
    b.resumes.stands.active) in
    record {
      activation = a;
      layer = φ;
      below = p.control.layers;
      active = made.activations;
      layers = made.layers;
      frames = λ n. refl;
      many = refl;
      height = active.0.height;
      inside = active.0.level ∙ h.inner;
      parent = made.parent ∙ h.parent;
      remains = b.remains;
      code = h.code ∙ h.inner;
      layer_level = h.inner;
      few = subst (λ n. n < most_levels) h.inner h.few;
    }

pub procedure_nested :
    (k : Block) (c : Callee) (level : ℕ) → IsInside k c level → (p : Point) (numbers : ℕ → ℕ) → IsAmong k numbers p →
    AreMade k.call.surroundings k.call.code c p numbers →
    IsBegun (block_at k.call.surroundings k.call.code c p numbers) →
    IsNested (block_at k.call.surroundings k.call.code c p numbers)
procedure_nested k c level h p numbers o made b =
    over_nested {k = k} {inner = block_at k.call.surroundings k.call.code c p numbers} {numbers = numbers}
    (procedure_over k c level h p numbers o made b) h.nested o h.around_it

pub function_nested :
    (k : Block) (c : Callee) (level : ℕ) → IsInside k c level → (p : Point) (numbers : ℕ → ℕ) → IsAmong k numbers p →
    AreMade k.call.surroundings k.call.code c p numbers →
    IsBegun (function_block k.call.surroundings k.call.code c p numbers) →
    IsNested (function_block k.call.surroundings k.call.code c p numbers)
function_nested k c level h p numbers o made b =
    over_nested {k = k} {inner = function_block k.call.surroundings k.call.code c p numbers} {numbers = numbers}
    (function_over k c level h p numbers o made b) h.nested o h.around_it

pub procedure_number :
    (k : Block) (c : Callee) (level : ℕ) (x : Spot) → IsInside k c level → x.level ≤ level → IsNumber k x →
    (p : Point) (numbers : ℕ → ℕ) → IsAmong k numbers p → AreMade k.call.surroundings k.call.code c p numbers →
    IsBegun (block_at k.call.surroundings k.call.code c p numbers) →
    IsNumber (block_at k.call.surroundings k.call.code c p numbers) x
procedure_number k c level x h less is p numbers o made b =
    over_number {k = k} {inner = block_at k.call.surroundings k.call.code c p numbers} {numbers = numbers} x
    (procedure_over k c level h p numbers o made b) h.nested h.begun o h.around_it less h.program h.parts is

pub function_number :
    (k : Block) (c : Callee) (level : ℕ) (x : Spot) → IsInside k c level → x.level ≤ level → IsNumber k x →
    (p : Point) (numbers : ℕ → ℕ) → IsAmong k numbers p → AreMade k.call.surroundings k.call.code c p numbers →
    IsBegun (function_block k.call.surroundings k.call.code c p numbers) →
    IsNumber (function_block k.call.surroundings k.call.code c p numbers) x
function_number k c level x h less is p numbers o made b =
    over_number {k = k} {inner = function_block k.call.surroundings k.call.code c p numbers} {numbers = numbers} x
    (function_over k c level h p numbers o made b) h.nested h.begun o h.around_it less h.program h.parts is

pub procedure_known :
    (k : Block) (c : Callee) (level : ℕ) (x : Spot) (d : Y.DeclaredVariable) → IsInside k c level → x.level ≤ level →
    IsKnown k x d → (p : Point) (numbers : ℕ → ℕ) → IsAmong k numbers p →
    AreMade k.call.surroundings k.call.code c p numbers →
    IsBegun (block_at k.call.surroundings k.call.code c p numbers) →
    IsKnown (block_at k.call.surroundings k.call.code c p numbers) x d
procedure_known k c level x d h less is p numbers o made b =
    over_known {k = k} {inner = block_at k.call.surroundings k.call.code c p numbers} {numbers = numbers} x d
    (procedure_over k c level h p numbers o made b) h.nested h.begun o h.around_it less h.program h.parts is

pub function_known :
    (k : Block) (c : Callee) (level : ℕ) (x : Spot) (d : Y.DeclaredVariable) → IsInside k c level → x.level ≤ level →
    IsKnown k x d → (p : Point) (numbers : ℕ → ℕ) → IsAmong k numbers p →
    AreMade k.call.surroundings k.call.code c p numbers →
    IsBegun (function_block k.call.surroundings k.call.code c p numbers) →
    IsKnown (function_block k.call.surroundings k.call.code c p numbers) x d
function_known k c level x d h less is p numbers o made b =
    over_known {k = k} {inner = function_block k.call.surroundings k.call.code c p numbers} {numbers = numbers} x d
    (function_over k c level h p numbers o made b) h.nested h.begun o h.around_it less h.program h.parts is
