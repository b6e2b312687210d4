-- A begin block's own variable: made at any point of the block around it, and a number of the begin block.
use Rattle.std.proofs.Common.{◌≡◌, ℕ, ◌+◌, ◌%◌, ◌≤◌, List, [], true, refl, sym, ap, ◌∙◌, subst}
use Rattle.std.specs.Prelude.{nat_le}
use Rattle.pli_meaning.specs.Contents.{footprint_of}
use Rattle.pli_meaning.specs.Control.{Label}
use Rattle.pli_meaning.specs.DeclaredShapes.{shape_of}
use Rattle.pli_meaning.specs.StorageState.{most_automatic}
use Rattle.activation_relation.specs.Layers.{Layer, Point}
use Rattle.activation_relation.specs.Variables.{with_made}
use Rattle.activation_relation.proofs.Returning.{in_use_later}
use Rattle.activation_relation.proofs.Remaining.{shapes_remain}
use Rattle.block_runs.specs.Machines.{HasParts}
use Rattle.program_runs.specs.Statements.{Block, IsAmong, IsBegun}
use Rattle.program_runs.specs.Variables.{Declared, IsDeclared, generation_for, made_of, place_behind}
use Rattle.expression_runs.specs.Variables.{IsNumber, Spot}
use Rattle.expression_runs.proofs.OwnVariables.{own_number}
use Rattle.begin_runs.specs.BeginBlocks.{Inner, begun_in, inner_block, inner_layer}
use Rattle.begin_runs.specs.InnerVariables.{IsOnly, IsOwn}

declared_among :
    (k : Block) (x : Inner) (d : Declared) (p : Point) (numbers held : ℕ → ℕ) → IsBegun k → IsAmong k numbers p →
    IsDeclared k.call.surroundings (begun_in k k.first held x) d (inner_layer k.call.surroundings k.first held x)
    k.first.control.layers →
    IsDeclared k.call.surroundings (begun_in k p held x) d (inner_layer k.call.surroundings p held x) p.control.layers
declared_among k x d p numbers held b o h =
    let w = k.call.surroundings in
    let φ : List Layer → Layer = λ ls. inner_layer w (with_layers ls) held x in
    let same = o.later.layers in
    record {
      newest = refl;
      here = subst (λ ls. (φ ls).at + d.place ≡ (φ ls).top) (sym same) h.here;
      holds = h.holds;
      size = h.size;
      fits = subst (λ ls. (φ ls).at + place_behind w.parts d ≤ (φ ls).lower) (sym same) h.fits;
      even = subst (λ ls. ((φ ls).at + place_behind w.parts d) % 16 ≡ 0) (sym same) h.even;
      low = subst (λ n. n ≤ w.parts.stack_start) (sym o.later.remains.low) h.low;
      shape = shapes_remain o.later.remains d.number (shape_of [] d.declared) h.shape;
      number = h.number;
      initial = h.initial;
      none = h.none;
      plain = h.plain;
      fixed = h.fixed;
      values = h.values;
      valued = h.valued;
      limit = subst (λ n. nat_le (n + footprint_of (generation_for d)) most_automatic ≡ true)
          (sym (in_use_later w k.first p b.resumes.stands o.stands o.later)) h.limit;
    }
  where
    with_layers : List Layer → Point
    with_layers ls = record p { control = record p.control { layers = ls } }

pub inner_among :
    (k : Block) (x : Inner) (d : Declared) (p : Point) (numbers held : ℕ → ℕ) → IsBegun k → IsAmong k numbers p →
    IsOnly k x k.first held d → IsOnly k x p held d
inner_among k x d p numbers held b o h =
    record {
      kind = h.kind;
      variables = h.variables;
      class = h.class;
      evaluations = h.evaluations;
      first = h.first;
      code = h.code;
      made = h.made;
      table = h.table;
      parts = h.parts;
      few = h.few;
      declared = declared_among k x d p numbers held b o h.declared;
    }

pub inner_own :
    (k : Block) (labels : List Label) (x : Inner) (index : ℕ) (p : Point) (numbers : ℕ → ℕ) (d : Declared)
    (spot : Spot) → HasParts k.call.surroundings.parts → IsOnly k x p numbers d → IsOwn k x d spot →
    IsBegun (inner_block k labels p numbers x index) → IsNumber (inner_block k labels p numbers x index) spot
inner_own k labels x index p numbers d spot parts h own b =
    let w = k.call.surroundings in
    let start = begun_in k p numbers x in
    let here : x.made start ≡ with_made (made_of w.parts (inner_layer w p numbers x) d) start =
    ap (λ (made : Point → Point). made start) h.made in
    own_number {k = inner_block k labels p numbers x index} {q = start} {d = d} {x = spot}
    (record {
      layer = inner_layer w p numbers x;
      others = p.control.layers;
      activation = _;
      below = p.state.activations;
      active = refl;
      level = own.level;
      declares = h.declared;
      parts = parts;
      laid = b.resumes.stands.laid;
      storage = ap (λ (u : Point). u.state.living) here;
      bound = ap (λ (u : Point). u.state.activations) here;
      placed = ap (λ (u : Point). u.places) here;
      layers = ap (λ (u : Point). u.control.layers) here;
      initial = own.initial;
      declared = own.declared;
      shape = own.shape;
      index = own.index;
      own = own.own ∙ sym own.level;
      place = own.place;
    })
