-- The variables behind the parameters of a procedure in its own block: each lives since it was made, and stands where
-- the frame ended then.
use Rattle.std.proofs.Common.{◌≡◌, ℕ, ◌+◌, ◌*◌, ◌^◌, ◌≤◌, inl, List, [], ◌∷◌, Some, refl, sym, ap}
use Rattle.std.proofs.Common.{◌∙◌, Option, subst, arith}
use Rattle.std.proofs.lemmas.Bool.{eq-eqb}
use Rattle.pli_typing.specs.Signatures.{data_size}
use Rattle.pli_meaning.specs.BasicValues.{VariableName}
use Rattle.pli_meaning.specs.DeclaredShapes.{shape_of}
use Rattle.pli_meaning.specs.StorageState.{Activation, ancestor, binding_in, binding_of}
use Rattle.pli_meaning.specs.StorageState.{living_of, newest_height}
use Rattle.pli_coding.specs.Frames.{name_bytes}
use Rattle.activation_relation.specs.FrameLaws.{with_waits}
use Rattle.activation_relation.specs.Frames.{AreLaid, frame_under}
use Rattle.activation_relation.specs.Layers.{Layer, Point}
use Rattle.activation_relation.specs.Points.{Surroundings}
use Rattle.block_runs.specs.Bodies.{Function}
use Rattle.block_runs.specs.Machines.{HasParts}
use Rattle.block_runs.proofs.Places.{Bounds, bounds}
use Rattle.program_runs.specs.Statements.{IsBegun}
use Rattle.program_runs.specs.Variables.{Declared}
use Rattle.expression_runs.specs.Variables.{Spot}
use Rattle.variable_runs.specs.Known.{IsKnown}
use Rattle.variable_runs.specs.Lists.{Among, all_made, first_all, layer_after, newest_all}
use Rattle.variable_runs.proofs.Known.{Has, has_each, layer_stays, newest_has}
use Rattle.variable_runs.proofs.Lists.{layers_after}
use Rattle.argument_runs.specs.ListCalls.{entered_point}
use Rattle.list_calls.specs.Lists.{bindings_with, bound_layer}
use Rattle.list_calls.specs.Taking.{ListCall, bound_point, bound_waits, giving_of, list_block, listed_layer}
use Rattle.list_calls.specs.WordsBeside.{AreAllBeside, IsOwnBeside}
use Rattle.list_calls.proofs.Bound.{AreBound, all_bound}
use Rattle.list_calls.proofs.ListBlocks.{activation_in, caller_of}

pub beside_known :
    (g : Option Function) (y : ListCall) (start : ℕ) (xs : List Declared) (d : Declared) (x : Spot) →
    HasParts y.surroundings.parts → AreAllBeside g y start xs → Among d xs → IsOwnBeside y.callee d x →
    IsBegun (list_block g y (newest_all y.surroundings.parts xs)) →
    IsKnown (list_block g y (newest_all y.surroundings.parts xs)) x d.declared
beside_known g y start xs d x parts h among own b =
    record {
      declared = own.declared;
      serial = has.serial;
      binding =
          ap (λ as'. binding_in (ancestor as' (newest_height as') x.level) x.index) active
          ∙ newest_has a as' has.binds.bindings x.level x.index own.level
          ∙ ap (λ n. binding_of has.binds.bindings n) own.index ∙ has.bound
          ∙ ap (λ n. Some (record {
            variable = n;
            name = VariableName has.serial;
            shape = shape_of [] d.declared;
          })) (sym own.index);
      living = has.living;
      lives = ap (λ (u : Point). living_of u.state.living has.serial) here ∙ has.lives;
      shape = has.shape;
      base = φ.at;
      frame = inl (
        eq-eqb x.level y.callee.environment.level (own.level ∙ sym own.own),
        sym (ap (λ ls. frame_under y.surroundings.parts ls) layers ∙ at),
      );
      at =
          ap (λ (u : Point). u.places.at has.serial) here ∙ has.place
          ∙ ap (λ n. φ.at + (n + name_bytes)) (sym own.place);
      low = omega (arith, first, low, at);
      inside =
          subst (λ n. φ.at + (n + name_bytes + data_size (shape_of [] d.declared).signature) ≤ 15 * 2 ^ 20)
          (sym own.place) (omega (arith, inside, last, high, lower));
    }
  where
    w : Surroundings
    w = y.surroundings

    q : Point
    q = bound_point g y

    φ : Layer
    φ = bound_layer y.callee.parameters y.passed (listed_layer y)

    φs : List Layer
    φs = with_waits (bound_waits y) y.layer ∷ y.others

    as' : List Activation
    as' = y.point.state.activations

    a : Activation
    a = activation_in g y

    bound : AreBound y.callee.parameters y.passed y.words (listed_layer y) (caller_of y) y.others (activation_in g y)
        y.point.state.activations (entered_point (giving_of g y)) (bound_point g y)
    bound = all_bound y.words y.callee.parameters y.passed (listed_layer y) (caller_of y) y.others (activation_in g y)
        y.point.state.activations (entered_point (giving_of g y)) h.many refl refl

    here : newest_all w.parts xs q ≡ all_made w.parts φ xs q
    here = ap (λ ls. first_all w.parts xs ls q) bound.layers

    has : Has (all_made w.parts φ xs q) φ.at φ.lower a as' d
    has =
        has_each w y.code y.callee.environment q φ φs a as' d xs start h.listed h.declared
        (record {
          bindings = bindings_with y.point.state.serials y.callee.parameters y.passed [];
          active = bound.activations;
        }) among

    active : (newest_all w.parts xs q).state.activations ≡ record a { bindings = has.binds.bindings } ∷ as'
    active = ap (λ (u : Point). u.state.activations) here ∙ has.binds.active

    layers : (newest_all w.parts xs q).control.layers ≡ layer_after w.parts (q.state.serials + 1) φ xs ∷ φs
    layers = ap (λ (u : Point). u.control.layers) here ∙ layers_after w q φ φs xs bound.layers

    around : Bounds w.parts (layer_after w.parts (q.state.serials + 1) φ xs ∷ φs)
    around =
        bounds w.parts (layer_after w.parts (q.state.serials + 1) φ xs ∷ φs)
        (subst (AreLaid w.parts) layers b.resumes.stands.laid)

    first : 7 * 2 ^ 20 ≤ w.parts.stack_start
    first = parts.high

    last : w.parts.stack_end + 2 ^ 12 ≤ 15 * 2 ^ 20
    last = parts.inside

    low : w.parts.stack_start ≤ (layer_after w.parts (q.state.serials + 1) φ xs).at
    low = around.low

    high : (layer_after w.parts (q.state.serials + 1) φ xs).lower ≤ w.parts.stack_end
    high = around.high

    at : (layer_after w.parts (q.state.serials + 1) φ xs).at ≡ φ.at
    at = (layer_stays w.parts (q.state.serials + 1) φ xs).0

    lower : (layer_after w.parts (q.state.serials + 1) φ xs).lower ≡ φ.lower
    lower = (layer_stays w.parts (q.state.serials + 1) φ xs).1

    inside : φ.at + (d.place + name_bytes + data_size (shape_of [] d.declared).signature) ≤ φ.lower
    inside = has.inside
