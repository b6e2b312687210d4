-- The main procedure's block with the units that it has by some point of its list: what they leave as it was at its
-- first statement.
use Rattle.std.proofs.Common.{◌≡◌, ℕ, ◌+◌, List, [], ◌∷◌, Some, true, false, refl, sym, ap, ◌∙◌, subst}
use Rattle.std.specs.Prelude.{◌==◌, Bool, cond}
use Rattle.pli_language.specs.declared.condition.Condition.{Condition}
use Rattle.pli_typing.specs.TypedTree as Y
use Rattle.pli_meaning.specs.StorageState.{Activation, Binding, OnUnit, ancestor, ancestor_at, height_of, newest_height}
use Rattle.pli_serving.specs.ServiceState as S
use Rattle.activation_relation.specs.Changes.{newest_with}
use Rattle.activation_relation.specs.Frames.{frame_under, upper_top}
use Rattle.activation_relation.specs.Landing.{with_units}
use Rattle.activation_relation.specs.Layers.{Layer, Point}
use Rattle.program_runs.specs.Starts.{image_parts}
use Rattle.program_runs.specs.Statements.{Block}
use Rattle.program_runs.specs.Variables.{Declared}
use Rattle.variable_runs.specs.Lists.{all_made, behind_made, layer_behind}
use Rattle.unit_runs.specs.Establishing as T
use Rattle.phase_runs.specs.Phases.{in_phase}
use Rattle.phase_runs.specs.Units.{AreBy, Past, changed, meant_by, newest_units, past_point}
use Rattle.unit_numbers.proofs.Forces.{change_own}
use Rattle.unit_numbers.proofs.Mains.{Alone, Main, alone, block_for, first_alone, ons_of}

-- what variables and units leave as it was
pub record Same (p q : Point) : Type 0 where
  pub signatures : q.places.signatures ≡ p.places.signatures
  pub low : q.places.low ≡ p.places.low
  pub waiting : q.control.waiting ≡ p.control.waiting

pub made_same :
    (φ : Layer) (xs : List Declared) (p : Point) → Same p (all_made image_parts φ xs p)
made_same φ [] p = record { signatures = refl; low = refl; waiting = refl }
made_same φ (x ∷ xs) p =
    let h = made_same (layer_behind image_parts (p.state.serials + 1) φ x) xs (behind_made image_parts φ x p) in
    record { signatures = h.signatures; low = h.low; waiting = h.waiting }

pub past_same : (past : Past) (p : Point) → Same p (past_point past p)
past_same [] p = record { signatures = refl; low = refl; waiting = refl }
past_same (e ∷ past) p =
    let h = past_same past p in
    record { signatures = h.signatures; low = h.low; waiting = h.waiting }

pub past_living : (past : Past) (p : Point) → (past_point past p).state.living ≡ p.state.living
past_living [] p = refl
past_living (e ∷ past) p = past_living past p

-- stacks and static ancestors
under_same :
    (xs : List (Condition × S.OnUnit)) (φs : List Layer) →
    frame_under image_parts (newest_with xs φs) ≡ frame_under image_parts φs
under_same xs [] = refl
under_same xs (φ ∷ φs) = refl

top_same :
    (xs : List (Condition × S.OnUnit)) (φs : List Layer) →
    upper_top image_parts (newest_with xs φs) ≡ upper_top image_parts φs
top_same xs [] = refl
top_same xs (φ ∷ φs) = refl

pub height_same :
    (us : List (Condition × OnUnit)) (as' : List Activation) (level : ℕ) →
    height_of (ancestor (newest_units us as') (newest_height (newest_units us as')) level)
    ≡ height_of (ancestor as' (newest_height as') level)
height_same us [] level = refl
height_same us (a ∷ as') level = by (a.height == a.height) (a.level == level)
  where
    by :
        (q r : Bool) →
        height_of (cond q (cond r (Some (with_units us a)) (ancestor as' a.parent level)) (ancestor as' a.height level))
        ≡ height_of (cond q (cond r (Some a) (ancestor as' a.parent level)) (ancestor as' a.height level))
    by true true = refl
    by true false = refl
    by false r = refl

pub record IsLike (p q : Point) : Type 0 where
  pub frame : frame_under image_parts q.control.layers ≡ frame_under image_parts p.control.layers
  pub top : upper_top image_parts q.control.layers ≡ upper_top image_parts p.control.layers
  pub entries : q.control.entries ≡ p.control.entries
  pub edits : q.control.edits ≡ p.control.edits
  pub ancestors : (level : ℕ) → height_of (ancestor_at q.state level) ≡ height_of (ancestor_at p.state level)

pub past_like : (past : Past) (p : Point) → IsLike p (past_point past p)
past_like [] p = record { frame = refl; top = refl; entries = refl; edits = refl; ancestors = λ level. refl }
past_like (e ∷ past) p =
    let q = past_point past p in
    let o = past_like past p in
    record {
      frame = under_same _ q.control.layers ∙ o.frame;
      top = top_same _ q.control.layers ∙ o.top;
      entries = o.entries;
      edits = o.edits;
      ancestors = λ level. height_same _ q.state.activations level ∙ o.ancestors level;
    }

-- its one activation has units of its ONs
past_alone :
    (level : ℕ) (ons : List (T.OnUnit × ℕ)) (past : Past) (p : Point) → AreBy ons past →
    Alone level ons p.state.activations → Alone level ons (past_point past p).state.activations
past_alone level ons [] p by h = h
past_alone level ons (e ∷ past) p by h =
    let o = past_alone level ons past p by.1 h in
    record {
      bindings = o.bindings;
      units = meant_by e o.units;
      own = change_own ons e o.units by.0 o.own;
      is = ap (changed e) o.is;
    }

-- the main procedure's block, with these units
abbrev pub main_past : {program : Y.Program} → Main program → (input : List ℕ) → (acts : ℕ) → Past → Block
main_past m input acts past =
    in_phase (block_for m input acts) (past_point past (block_for m input acts).first)

pub main_alone :
    {program : Y.Program} (m : Main program) (input : List ℕ) (acts : ℕ) (past : Past) → AreBy (ons_of m) past →
    Alone m.head.level (ons_of m) (main_past m input acts past).first.state.activations
main_alone m input acts past by =
    past_alone m.head.level (ons_of m) past (block_for m input acts).first by (first_alone m input acts)

pub alone_parent :
    (level : ℕ) (bs : List Binding) (us : List (Condition × OnUnit)) → level ≡ 0 →
    height_of (ancestor (alone level bs us) 1 0) ≡ 1
alone_parent level bs us e = subst (λ l. height_of (ancestor (alone l bs us) 1 0) ≡ 1) (sym e) refl
