-- On-units: what services 28 to 30 and 33 answer at a point.
use Rattle.std.proofs.Common.{◌≡◌, ℕ, suc, ◌≤◌, List, [], ◌∷◌, length, map, Option, Some, None, Bool, true, false}
use Rattle.std.proofs.Common.{refl, sym, ap, ◌∙◌, subst, arith}
use Rattle.std.specs.Prelude.{cond, ◌==◌}
use Rattle.pli_language.specs.declared.condition.Condition.{Condition}
use Rattle.pli_typing.specs.TypedTree as Y
use Rattle.pli_meaning.specs.World.{raising}
use Rattle.pli_meaning.specs.StorageState as M
use Rattle.pli_meaning.specs.StorageState.{Activation, unit_for, without_unit, first_unit, same_condition}
use Rattle.pli_serving.specs.ActsAndEnds as W
use Rattle.pli_serving.specs.Answers.{Answer, Done, Bad, acting}
use Rattle.pli_serving.specs.OnUnits as U
use Rattle.pli_serving.specs.Outcomes.{bad_unless, or_bad}
use Rattle.pli_serving.specs.ServiceState as S
use Rattle.storage_relation.proofs.Holders.{eqb-refl, eqb-other}
use Rattle.activation_relation.specs.Layers.{Layer, Point, activation_of, services_of}
use Rattle.activation_relation.specs.Chains.{UnitPlaces, StandsAt, IsUnit, AreUnits, AreActive, RunsFor, frame_at}
use Rattle.activation_relation.specs.Changes.{established, reverted, awaiting, with_act}
use Rattle.activation_relation.specs.ServiceLaws.{at_point, HasActLeft, IsSystem}
use Rattle.activation_relation.proofs.Blocks.{same_length}

-- ---- 28, 29: on and revert

abbrev with_layers : List Layer → Point → Point
with_layers φs p = record p { control = record p.control { layers = φs } }

pub on_answered :
    (p : Point) (m : List ℕ) (φ : Layer) (φs : List Layer) (c : Condition) (u : M.OnUnit) (n at : ℕ) →
    p.control.layers ≡ φ ∷ φs → U.condition_of n ≡ Some c →
    U.on_served (at_point p m) n at ≡ Done (services_of (established c u (U.unit_of at) p)) m n at
on_answered p m φ φs c u n at newest is =
    subst (λ ls. U.on_served (at_point (with_layers ls p) m) n at
    ≡ Done (services_of (established c u (U.unit_of at) (with_layers ls p))) m n at) (sym newest) there
  where
    q : Point
    q = with_layers (φ ∷ φs) p

    there : U.on_served (at_point q m) n at ≡ Done (services_of (established c u (U.unit_of at) q)) m n at
    there =
        let done : List S.Activation → Answer = λ xs. Done (record (services_of q) { activations = xs }) m n at in
        let change : Condition → Answer =
        λ k. or_bad (U.established k (U.unit_of at) (map activation_of (φ ∷ φs))) done in
        ap (λ o. or_bad o change) is

pub revert_answered :
    (p : Point) (m : List ℕ) (φ : Layer) (φs : List Layer) (c : Condition) (n a1 : ℕ) →
    p.control.layers ≡ φ ∷ φs → U.condition_of n ≡ Some c →
    U.revert_served (at_point p m) n a1 ≡ Done (services_of (reverted c p)) m n a1
revert_answered p m φ φs c n a1 newest is =
    subst (λ ls. U.revert_served (at_point (with_layers ls p) m) n a1
    ≡ Done (services_of (reverted c (with_layers ls p))) m n a1) (sym newest) there
  where
    q : Point
    q = with_layers (φ ∷ φs) p

    there : U.revert_served (at_point q m) n a1 ≡ Done (services_of (reverted c q)) m n a1
    there =
        let done : List S.Activation → Answer = λ xs. Done (record (services_of q) { activations = xs }) m n a1 in
        let change : Condition → Answer = λ k. or_bad (U.reverted k (map activation_of (φ ∷ φs))) done in
        ap (λ o. or_bad o change) is

-- ---- the unit in force

abbrev AreIf : UnitPlaces → Option M.OnUnit → Option S.OnUnit → Type 0
AreIf units None None = Unit {0}
AreIf units (Some u) (Some x) = IsUnit units u x
AreIf units _ _ = ⊥

units_same :
    (units : UnitPlaces) (us : List (Condition × M.OnUnit)) (xs : List (Condition × S.OnUnit)) (c : Condition) →
    AreUnits units us xs → AreIf units (unit_for us c) (unit_for xs c)
units_same units [] [] c h = tt
units_same units [] (x ∷ xs) c h = absurd h
units_same units (u ∷ us) [] c h = absurd h
units_same units (u ∷ us) (x ∷ xs) c h =
    subst (λ d. AreIf units (unit_for (u ∷ us) c) (cond (same_condition d c) (Some x.1) (unit_for xs c))) h.0.0
    (by (same_condition u.0 c) (units_same units us xs c h.1))
  where
    by :
        (q : Bool) → AreIf units (unit_for us c) (unit_for xs c) →
        AreIf units (cond q (Some u.1) (unit_for us c)) (cond q (Some x.1) (unit_for xs c))
    by true rest = h.0.1
    by false rest = rest

-- the activation that established it is the same by its height and by its frame
pub data AreInForce (units : UnitPlaces) (φs : List Layer) (most : ℕ) :
    Option (Activation × M.OnUnit) → Option (S.Activation × S.OnUnit) → Type 0 where
  NoneInForce : AreInForce units φs most None None
  InForce :
      (f : Activation × M.OnUnit) (x : S.Activation × S.OnUnit) → f.0.height ≤ most →
      x.0.frame ≡ frame_at φs f.0.height → IsUnit units f.1 x.1 → AreInForce units φs most (Some f) (Some x)

pub frame_below :
    (φ : Layer) (φs : List Layer) (height : ℕ) → height ≤ length φs → frame_at (φ ∷ φs) height ≡ frame_at φs height
frame_below φ φs height h =
    ap (λ q. cond q φ.at (frame_at φs height)) (eqb-other height (suc (length φs)) (omega (arith, h)))

pub frame_own : (φ : Layer) (φs : List Layer) → frame_at (φ ∷ φs) (suc (length φs)) ≡ φ.at
frame_own φ φs = ap (λ q. cond q φ.at (frame_at φs (suc (length φs)))) (eqb-refl (suc (length φs)))

further :
    (units : UnitPlaces) (φ : Layer) (φs : List Layer) (f : Option (Activation × M.OnUnit))
    (x : Option (S.Activation × S.OnUnit)) → AreInForce units φs (length φs) f x →
    AreInForce units (φ ∷ φs) (suc (length φs)) f x
further units φ φs _ _ NoneInForce = NoneInForce
further units φ φs _ _ (InForce f x low frame is) =
    InForce f x (omega (arith, low)) (frame ∙ sym (frame_below φ φs f.0.height low)) is

pub in_force :
    (units : UnitPlaces) (as' : List Activation) (φs : List Layer) (c : Condition) → AreActive units as' φs →
    AreInForce units φs (length φs) (M.force as' c) (U.force (map activation_of φs) c)
in_force units [] [] c h = NoneInForce
in_force units [] (φ ∷ φs) c h = absurd h
in_force units (a ∷ as') [] c h = absurd h
in_force units (a ∷ as') (φ ∷ φs) c h =
    by (unit_for a.units c) (unit_for φ.units c) (units_same units a.units φ.units c h.0.units)
    (in_force units as' φs c h.1)
  where
    height : a.height ≡ suc (length φs)
    height = h.0.height ∙ ap (λ n. suc n) (sym (same_length units as' φs h.1))

    by :
        (u : Option M.OnUnit) (x : Option S.OnUnit) → AreIf units u x →
        AreInForce units φs (length φs) (M.force as' c) (U.force (map activation_of φs) c) →
        AreInForce units (φ ∷ φs) (suc (length φs)) (first_unit a u (M.force as' c))
        (first_unit (activation_of φ) x (U.force (map activation_of φs) c))
    by None None is rest = further units φ φs (M.force as' c) (U.force (map activation_of φs) c) rest
    by None (Some x) is rest = absurd is
    by (Some u) None is rest = absurd is
    by (Some u) (Some x) is rest =
        let low : a.height ≤ suc (length φs) = omega (arith, height) in
        InForce (a, u) (activation_of φ, x) low (sym (ap (frame_at (φ ∷ φs)) height ∙ frame_own φ φs)) is

-- ---- 30: raise

raise_by :
    (p : Point) (m : List ℕ) (c : Condition) (n code resume : ℕ) (o : Option (S.Activation × S.OnUnit)) →
    HasActLeft p → U.condition_of n ≡ Some c → W.is_code code ≡ true →
    U.force (map activation_of p.control.layers) c ≡ o →
    U.raise_served (at_point p m) n code resume
    ≡ U.raise_answered (at_point p m) (services_of (with_act (raising c code) p)) code resume o
raise_by p m c n code resume o left is small found =
    let v = services_of p in
    let call = at_point p m in
    let v' = services_of (with_act (raising c code) p) in
    let answer : Condition → Answer = λ k. acting v (U.raise_answered call
    (services_of (with_act (raising k code) p)) code resume (U.force (map activation_of p.control.layers) k)) in
    ap (λ o. or_bad o (λ k. bad_unless (W.is_code code) (answer k))) is
    ∙ ap (λ q. bad_unless q (answer c)) small
    ∙ ap (λ q. cond q (U.raise_answered call v' code resume (U.force (map activation_of p.control.layers) c)) Bad) left
    ∙ ap (λ o. U.raise_answered call v' code resume o) found

-- what is found where the storage machine finds a block's unit
pub record FoundUnit (units : UnitPlaces) (φs : List Layer) (a : Activation) (unit : Y.Block)
    (o : Option (S.Activation × S.OnUnit)) : Type 0 where
  pub at : ℕ
  pub by : S.Activation
  pub stands : StandsAt units unit at
  pub frame : by.frame ≡ frame_at φs a.height
  pub is : o ≡ Some (by, S.CodeUnit at)

abbrev unit_found : Option (Activation × M.OnUnit) → M.OnUnit
unit_found None = M.SystemUnit
unit_found (Some f) = f.1

found_unit :
    (units : UnitPlaces) (φs : List Layer) (most : ℕ) (f : Option (Activation × M.OnUnit))
    (x : Option (S.Activation × S.OnUnit)) (a : Activation) (unit : Y.Block) → AreInForce units φs most f x →
    f ≡ Some (a, M.BlockUnit unit) → FoundUnit units φs a unit x
found_unit units φs most _ _ a unit NoneInForce e = absurd (cc e)
found_unit units φs most _ _ a unit (InForce (b, M.SystemUnit) x low frame is) e =
    let other : M.SystemUnit ≡ M.BlockUnit unit = ap unit_found e in absurd (cc other)
found_unit units φs most _ _ a unit (InForce (b, M.BlockUnit u) (y, S.SystemUnit) low frame is) e = absurd is
found_unit units φs most _ _ a unit (InForce (b, M.BlockUnit u) (y, S.CodeUnit at) low frame is) e =
    let height : b.height ≡ a.height = ap height_found e in
    let same : M.BlockUnit u ≡ M.BlockUnit unit = ap unit_found e in
    let block : u ≡ unit = cc same in
    record {
      at = at;
      by = y;
      stands = subst (λ v. StandsAt units v at) block is;
      frame = frame ∙ ap (frame_at φs) height;
      is = refl;
    }
  where
    height_found : Option (Activation × M.OnUnit) → ℕ
    height_found None = 0
    height_found (Some f) = f.0.height

pub raise_answered :
    (units : UnitPlaces) (p : Point) (m : List ℕ) (c : Condition) (n code resume : ℕ) (a : Activation)
    (unit : Y.Block) → AreActive units p.state.activations p.control.layers → HasActLeft p →
    U.condition_of n ≡ Some c → W.is_code code ≡ true →
    M.force p.state.activations c ≡ Some (a, M.BlockUnit unit) →
    (at : ℕ) × StandsAt units unit at
    × (U.raise_served (at_point p m) n code resume
    ≡ Done (services_of (awaiting code resume (with_act (raising c code) p))) m at
    (frame_at p.control.layers a.height))
raise_answered units p m c n code resume a unit active left is small found =
    let f = found_unit units p.control.layers (length p.control.layers) (M.force p.state.activations c)
    (U.force (map activation_of p.control.layers) c) a unit
    (in_force units p.state.activations p.control.layers c active) found in (
      f.at,
      f.stands,
      raise_by p m c n code resume (Some (f.by, S.CodeUnit f.at)) left is small f.is
          ∙ ap (λ x. Done (services_of (awaiting code resume (with_act (raising c code) p))) m f.at x) f.frame,
    )

-- what the services find where the storage machine finds none but the system's
abbrev IsServedSystem : Option (S.Activation × S.OnUnit) → Type 0
IsServedSystem None = Unit {0}
IsServedSystem (Some (x, S.SystemUnit)) = Unit {0}
IsServedSystem (Some (x, S.CodeUnit at)) = ⊥

system_found :
    (units : UnitPlaces) (φs : List Layer) (most : ℕ) (f : Option (Activation × M.OnUnit))
    (x : Option (S.Activation × S.OnUnit)) → AreInForce units φs most f x → IsSystem f → IsServedSystem x
system_found units φs most _ _ NoneInForce h = tt
system_found units φs most _ _ (InForce (b, M.SystemUnit) (y, S.SystemUnit) low frame is) h = tt
system_found units φs most _ _ (InForce (b, M.SystemUnit) (y, S.CodeUnit at) low frame is) h = absurd is
system_found units φs most _ _ (InForce (b, M.BlockUnit u) x low frame is) h = absurd h

none_answered :
    (p : Point) (m : List ℕ) (v : S.Services) (code resume : ℕ) (o : Option (S.Activation × S.OnUnit)) →
    IsServedSystem o → U.raise_answered (at_point p m) v code resume o ≡ Done v m 0 code
none_answered p m v code resume None h = refl
none_answered p m v code resume (Some (x, S.SystemUnit)) h = refl
none_answered p m v code resume (Some (x, S.CodeUnit at)) h = absurd h

pub raise_unanswered :
    (units : UnitPlaces) (p : Point) (m : List ℕ) (c : Condition) (n code resume : ℕ) →
    AreActive units p.state.activations p.control.layers → HasActLeft p → U.condition_of n ≡ Some c →
    W.is_code code ≡ true → IsSystem (M.force p.state.activations c) →
    U.raise_served (at_point p m) n code resume ≡ Done (services_of (with_act (raising c code) p)) m 0 code
raise_unanswered units p m c n code resume active left is small system =
    let o = U.force (map activation_of p.control.layers) c in
    raise_by p m c n code resume o left is small refl
    ∙ none_answered p m (services_of (with_act (raising c code) p)) code resume o
    (system_found units p.control.layers (length p.control.layers) (M.force p.state.activations c) o
    (in_force units p.state.activations p.control.layers c active) system)

-- ---- 33: the code for which the newest on-unit runs

code_by :
    (kind : S.BlockKind) (oncode further : ℕ) → RunsFor kind oncode →
    W.code_of_kind kind further ≡ cond (oncode == 0) further oncode
code_by S.ProcedureBlock oncode further runs = ap (λ n. cond (n == 0) further n) (sym runs)
code_by S.BeginBlock oncode further runs = ap (λ n. cond (n == 0) further n) (sym runs)
code_by (S.OnUnitBlock code resume) oncode further runs =
    let some = runs.1 in
    sym runs.0 ∙ ap (λ q. cond q further oncode) (sym (eqb-other oncode 0 (omega (arith, some))))

pub oncode_same :
    (units : UnitPlaces) (as' : List Activation) (φs : List Layer) → AreActive units as' φs →
    W.oncode_of (map activation_of φs) ≡ M.oncode_of as'
oncode_same units [] [] h = refl
oncode_same units [] (φ ∷ φs) h = absurd h
oncode_same units (a ∷ as') [] h = absurd h
oncode_same units (a ∷ as') (φ ∷ φs) h =
    ap (W.code_of_kind φ.kind) (oncode_same units as' φs h.1)
    ∙ code_by φ.kind a.oncode (M.oncode_of as') h.0.runs

pub oncode_answered :
    (units : UnitPlaces) (p : Point) (m : List ℕ) (a1 : ℕ) → AreActive units p.state.activations p.control.layers →
    W.oncode_served (at_point p m) a1 ≡ Done (services_of p) m (M.oncode_of p.state.activations) a1
oncode_answered units p m a1 active =
    ap (λ n. Done (services_of p) m n a1) (oncode_same units p.state.activations p.control.layers active)
