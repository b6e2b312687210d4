-- Variables of a procedure at any point of the block that calls it, if they can be made at the block's first statement.
use Rattle.std.proofs.Common.{◌≡◌, ℕ, ◌+◌, ◌%◌, ◌^◌, ◌<◌, ◌≤◌, inl, inr, List, [], ◌∷◌, length, true, refl, sym, ap}
use Rattle.std.proofs.Common.{◌∙◌}
use Rattle.std.proofs.Common.{subst, arith}
use Rattle.std.specs.Prelude.{cond, is_some, nat_le, ◌==◌}
use Rattle.pli_meaning.specs.Contents.{footprint_of}
use Rattle.pli_meaning.specs.DeclaredShapes.{shape_of}
use Rattle.pli_meaning.specs.Making.{with_binding}
use Rattle.pli_meaning.specs.StorageState.{Activation, Binding, automatic_in_use, most_automatic, newest_height}
use Rattle.pli_serving.specs.Arguments.{capacity_of}
use Rattle.storage_relation.specs.Stored.{Extends}
use Rattle.activation_relation.specs.Layers.{Layer, Point}
use Rattle.activation_relation.specs.Points.{Surroundings}
use Rattle.activation_relation.specs.Variables.{newest_grown}
use Rattle.activation_relation.proofs.Returning.{in_use_later}
use Rattle.activation_relation.proofs.Remaining.{shapes_remain}
use Rattle.rv_meaning.specs.declared.instr.Instr.{Instr}
use Rattle.program_runs.specs.Calls.{Callee, begun_at}
use Rattle.program_runs.specs.Initial.{Begins, MayBeMade}
use Rattle.program_runs.specs.Procedures.{layer_for}
use Rattle.program_runs.specs.Statements.{Block, IsAmong, IsBegun}
use Rattle.program_runs.specs.Variables.{Declared, IsDeclared, generation_for, place_behind}
use Rattle.variable_runs.specs.Areas.{IsArea}
use Rattle.variable_runs.specs.Lists.{AreAll, AreAllBegun, AreAllOf, AreEach, Declares, HaveWords, MayBegin}
use Rattle.variable_runs.specs.Lists.{behind_made, layer_behind, made_now}

-- two points with their newest blocks' layers, alike as far as a variable's making can tell
record AreAlike (p q : Point) (φ ψ : Layer) : Type 0 where
  at : ψ.at ≡ φ.at
  top : ψ.top ≡ φ.top
  lower : ψ.lower ≡ φ.lower
  low : q.places.low ≡ p.places.low
  constants : q.places.constants ≡ p.places.constants
  signatures : Extends p.places.signatures q.places.signatures
  in_use : automatic_in_use q.state.living ≡ automatic_in_use p.state.living
  owner : newest_height q.state.activations ≡ newest_height p.state.activations

declared_alike :
    (w : Surroundings) (p q : Point) (x : Declared) (φ ψ : Layer) (φs ψs : List Layer) → AreAlike p q φ ψ →
    q.control.layers ≡ ψ ∷ ψs → IsDeclared w p x φ φs → IsDeclared w q x ψ ψs
declared_alike w p q x φ ψ φs ψs a newest h =
    let at = a.at in
    let top = a.top in
    let lower = a.lower in
    let here = h.here in
    let fits = h.fits in
    record {
      newest = newest;
      here = omega (arith, at, top, here);
      holds = h.holds;
      size = h.size;
      fits = omega (arith, at, lower, fits);
      even = subst (λ n. (n + place_behind w.parts x) % 16 ≡ 0) (sym at) h.even;
      low = subst (λ n. n ≤ w.parts.stack_start) (sym a.low) h.low;
      shape = a.signatures x.number (shape_of [] x.declared) h.shape;
      number = h.number;
      initial = h.initial;
      none = h.none;
      plain = h.plain;
      fixed = h.fixed;
      values = h.values;
      valued = h.valued;
      limit = subst (λ n. nat_le (n + footprint_of (generation_for x)) most_automatic ≡ true) (sym a.in_use) h.limit;
    }

made_alike :
    (w : Surroundings) (code : List Instr) (p q : Point) (x : Declared) (φ ψ : Layer) (φs ψs : List Layer) →
    AreAlike p q φ ψ → q.control.layers ≡ ψ ∷ ψs → MayBeMade w code p x φ φs → MayBeMade w code q x ψ ψs
made_alike w code p q x φ ψ φs ψs a newest h =
    let at = a.at in
    let top = a.top in
    let lower = a.lower in
    let here = h.here in
    let fits = h.fits in
    record {
      newest = newest;
      here = omega (arith, at, top, here);
      holds = h.holds;
      size = h.size;
      fits = omega (arith, at, lower, fits);
      even = subst (λ n. (n + place_behind w.parts x) % 16 ≡ 0) (sym at) h.even;
      low = subst (λ n. n ≤ w.parts.stack_start) (sym a.low) h.low;
      shape = a.signatures x.number (shape_of [] x.declared) h.shape;
      number = h.number;
      initial = subst (λ constants. Begins constants code w.links.data' x.declared) (sym a.constants) h.initial;
      plain = h.plain;
      fixed = h.fixed;
      values = h.values;
      valued = h.valued;
      limit = subst (λ n. nat_le (n + footprint_of (generation_for x)) most_automatic ≡ true) (sym a.in_use) h.limit;
    }

area_alike :
    (w : Surroundings) (p q : Point) (x : Declared) (φ ψ : Layer) (φs ψs : List Layer) → AreAlike p q φ ψ →
    q.control.layers ≡ ψ ∷ ψs → (is_some (capacity_of (shape_of [] x.declared)) ≡ true → q.state.serials + 1 < 2 ^ 64) →
    IsArea w p x φ φs → IsArea w q x ψ ψs
area_alike w p q x φ ψ φs ψs a newest words h =
    let at = a.at in
    let top = a.top in
    let lower = a.lower in
    let here = h.here in
    let fits = h.fits in
    record {
      newest = newest;
      here = omega (arith, at, top, here);
      capacity = h.capacity;
      holds = h.holds;
      size = h.size;
      fits = omega (arith, at, lower, fits);
      even = subst (λ n. (n + place_behind w.parts x) % 16 ≡ 0) (sym at) h.even;
      low = subst (λ n. n ≤ w.parts.stack_start) (sym a.low) h.low;
      shape = a.signatures x.number (shape_of [] x.declared) h.shape;
      number = h.number;
      initial = h.initial;
      none = h.none;
      area = h.area;
      fixed = h.fixed;
      rounded = h.rounded;
      bounded = h.bounded;
      serial = words (ap is_some h.fixed);
      limit = subst (λ n. nat_le (n + footprint_of (generation_for x)) most_automatic ≡ true) (sym a.in_use) h.limit;
    }

-- what may be made at a point may be made at one like it
abbrev Respects : (Point → Declared → Layer → List Layer → Type 0) → Type 0
Respects P =
    (p q : Point) (x : Declared) (φ ψ : Layer) (φs ψs : List Layer) → AreAlike p q φ ψ → q.control.layers ≡ ψ ∷ ψs →
    (is_some (capacity_of (shape_of [] x.declared)) ≡ true → q.state.serials + 1 < 2 ^ 64) → P p x φ φs → P q x ψ ψs

declares_alike : (w : Surroundings) → Respects (Declares w)
declares_alike w p q x φ ψ φs ψs a newest words (inl h) = inl (declared_alike w p q x φ ψ φs ψs a newest h)
declares_alike w p q x φ ψ φs ψs a newest words (inr h) = inr (area_alike w p q x φ ψ φs ψs a newest words h)

begins_alike : (w : Surroundings) (code : List Instr) → Respects (MayBegin w code)
begins_alike w code p q x φ ψ φs ψs a newest words (inl h) = inl (made_alike w code p q x φ ψ φs ψs a newest h)
begins_alike w code p q x φ ψ φs ψs a newest words (inr h) = inr (area_alike w p q x φ ψ φs ψs a newest words h)

bound_height : (b : Binding) (as' : List Activation) → newest_height (with_binding b as') ≡ newest_height as'
bound_height b [] = refl
bound_height b (a ∷ as') = refl

alike_made :
    (w : Surroundings) (p q : Point) (x : Declared) (φ ψ : Layer) → AreAlike p q φ ψ →
    AreAlike (behind_made w.parts φ x p) (behind_made w.parts ψ x q)
    (layer_behind w.parts (p.state.serials + 1) φ x) (layer_behind w.parts (q.state.serials + 1) ψ x)
alike_made w p q x φ ψ a =
    let size = footprint_of (generation_for x) in
    record {
      at = a.at;
      top = ap (λ n. n + place_behind w.parts x) a.at;
      lower = a.lower;
      low = a.low;
      constants = a.constants;
      signatures = a.signatures;
      in_use =
          ap (λ n. cond (n == 0) (automatic_in_use q.state.living) (size + automatic_in_use q.state.living)) a.owner
          ∙ ap (λ n. cond (newest_height p.state.activations == 0) n (size + n)) a.in_use;
      owner = bound_height _ q.state.activations ∙ a.owner ∙ sym (bound_height _ p.state.activations);
    }

all_alike :
    (P : Point → Declared → Layer → List Layer → Type 0) → Respects P → (w : Surroundings) (p q : Point) (φ ψ : Layer)
    (φs ψs : List Layer) (xs : List Declared) → AreAlike p q φ ψ → q.control.layers ≡ ψ ∷ ψs →
    HaveWords q.state.serials xs → AreEach P w.parts p φ φs xs → AreEach P w.parts q ψ ψs xs
all_alike P each w p q φ ψ φs ψs [] a newest words h = tt
all_alike P each w p q φ ψ φs ψs (x ∷ xs) a newest words h = (
  each p q x φ ψ φs ψs a newest words.0 h.0,
  all_alike P each w (behind_made w.parts φ x p) (behind_made w.parts ψ x q)
      (layer_behind w.parts (p.state.serials + 1) φ x) (layer_behind w.parts (q.state.serials + 1) ψ x) φs ψs xs
      (alike_made w p q x φ ψ a)
      (ap (λ ls. newest_grown (made_now w.parts (q.state.serials + 1) ψ x) ls) newest) words.1 h.1,
)

each_among :
    (P : Point → Declared → Layer → List Layer → Type 0) → Respects P → (k : Block) (c : Callee) (xs : List Declared)
    (p : Point) (numbers held : ℕ → ℕ) → IsBegun k → IsAmong k numbers p → HaveWords p.state.serials xs →
    AreAllOf P k.call.surroundings c k.first held xs → AreAllOf P k.call.surroundings c p held xs
each_among P each k c xs p numbers held b o words h =
    let w = k.call.surroundings in
    let φ : Point → Layer = λ q. layer_for w q held c.procedure c.calling in
    record {
      kind = h.kind;
      those = h.those;
      listed = h.listed;
      code = h.code;
      made = h.made;
      parts = h.parts;
      few = h.few;
      declared = all_alike P each w (begun_at w c k.first held) (begun_at w c p held) (φ k.first) (φ p)
          k.first.control.layers p.control.layers xs alike refl words h.declared;
    }
  where
    with_layers : List Layer → Point
    with_layers ls = record p { control = record p.control { layers = ls } }

    layer_at : List Layer → Layer
    layer_at ls = layer_for k.call.surroundings (with_layers ls) held c.procedure c.calling

    alike :
        AreAlike (begun_at k.call.surroundings c k.first held) (begun_at k.call.surroundings c p held)
        (layer_for k.call.surroundings k.first held c.procedure c.calling)
        (layer_for k.call.surroundings p held c.procedure c.calling)
    alike =
        record {
          at = ap (λ ls. (layer_at ls).at) o.later.layers;
          top = ap (λ ls. (layer_at ls).top) o.later.layers;
          lower = ap (λ ls. (layer_at ls).lower) o.later.layers;
          low = o.later.remains.low;
          constants = o.later.remains.constants;
          signatures = shapes_remain o.later.remains;
          in_use = in_use_later k.call.surroundings k.first p b.resumes.stands o.stands o.later;
          owner = ap (λ (as' : List Activation). length as' + 1) o.later.activations;
        }

pub all_among :
    (k : Block) (c : Callee) (xs : List Declared) (p : Point) (numbers held : ℕ → ℕ) → IsBegun k →
    IsAmong k numbers p → HaveWords p.state.serials xs → AreAll k.call.surroundings c k.first held xs →
    AreAll k.call.surroundings c p held xs
all_among k c xs p numbers held b o words h =
    each_among (Declares k.call.surroundings) (declares_alike k.call.surroundings) k c xs p numbers held b o words h

pub begun_among :
    (k : Block) (c : Callee) (xs : List Declared) (p : Point) (numbers held : ℕ → ℕ) → IsBegun k →
    IsAmong k numbers p → HaveWords p.state.serials xs →
    AreAllBegun k.call.surroundings k.call.code c k.first held xs →
    AreAllBegun k.call.surroundings k.call.code c p held xs
begun_among k c xs p numbers held b o words h =
    let w = k.call.surroundings in
    let code = k.call.code in
    each_among (MayBegin w code) (begins_alike w code) k c xs p numbers held b o words h
