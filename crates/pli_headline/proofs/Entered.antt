-- What stands for the blocks that are entered: their frames, how those in the main procedure are entered, and which units of the program
-- may be in force, each with the place of its code.
use Rattle.std.proofs.Common.{◌≡◌, ℕ, zero, suc, ◌<◌, List, [], ◌∷◌, length, Option, None, Some, Bool, true, false, refl, ap, subst, arith}
use Rattle.std.specs.Prelude.{cond}
use Rattle.pli_language.specs.declared.condition.Condition.{Condition}
use Rattle.pli_typing.specs.TypedTree as Y
use Rattle.pli_meaning.specs.StorageState.{Activation, OnUnit, SystemUnit, BlockUnit, same_condition, unit_for, without_unit, first_unit, force}
use Rattle.pli_serving.specs.ServiceState as S
use Rattle.pli_serving.specs.OnUnits as U
use Rattle.pli_headline.proofs.Activations.{same_is}
use Rattle.pli_headline.proofs.Asides.{Aside, first_aside, behind_aside}

-- how a block was entered; of an on-unit also how many places in format lists stood below it
abbrev pub Way : Type 0
Way = S.BlockKind × ℕ

abbrev pub held_by : S.BlockKind → (own further : ℕ) → ℕ
held_by S.ProcedureBlock own further = further
held_by S.BeginBlock own further = further
held_by (S.OnUnitBlock code resume) own further = own

abbrev pub way_of : S.Activation → Way
way_of x = (x.kind, held_by x.kind x.edits 0)

abbrev pub procedure_way : Way
procedure_way = (S.ProcedureBlock, 0)

abbrev pub begin_way : Way
begin_way = (S.BeginBlock, 0)

-- the frames, newest first; and of the blocks in the main procedure how they are entered, and which variables of theirs are put aside
pub record Frames : Type 1 where
  pub list : List ℕ
  pub kinds : List Way
  pub asides : List (List Aside)
  pub known : Condition → (frame : ℕ) → Y.Block → (at : ℕ) → Type 0

-- with some more variables of the newest block put aside
abbrev pub put_aside : Aside → Frames → Frames
put_aside x frames =
    record { list = frames.list; kinds = frames.kinds; asides = (x ∷ first_aside frames.asides) ∷ behind_aside frames.asides; known = frames.known }

-- a block above these
abbrev pub atop : (at : ℕ) → Way → Frames → Frames
atop at kind frames = record { list = at ∷ frames.list; kinds = kind ∷ frames.kinds; asides = [] ∷ frames.asides; known = frames.known }

-- the main procedure alone
abbrev pub lone : (at : ℕ) → (known : Condition → ℕ → Y.Block → ℕ → Type 0) → Frames
lone at known = record { list = at ∷ []; kinds = []; asides = []; known = known }

-- ---- how blocks are entered

abbrev pub kinds_of : List S.Activation → List Way
kinds_of [] = []
kinds_of (x ∷ []) = []
kinds_of (x ∷ y ∷ ys) = way_of x ∷ kinds_of (y ∷ ys)

abbrev pub behind_kind : List Way → List Way
behind_kind [] = []
behind_kind (k ∷ ks) = ks

abbrev pub first_kind : List Way → Way
first_kind [] = procedure_way
first_kind (k ∷ ks) = k

-- once so many blocks have ended, a frame and those behind it are left
abbrev pub kinds_left : ℕ → List Way → List Way
kinds_left zero ks = ks
kinds_left (suc m) ks = kinds_left m (behind_kind ks)

abbrev pub asides_left_behind : ℕ → List (List Aside) → List (List Aside)
asides_left_behind zero xss = xss
asides_left_behind (suc m) xss = asides_left_behind m (behind_aside xss)

abbrev pub frames_left : (m frame : ℕ) → List ℕ → Frames → Frames
frames_left m frame behind frames = record { list = frame ∷ behind; kinds = kinds_left m frames.kinds; asides = asides_left_behind m frames.asides; known = frames.known }

pub kinds_above : (x : S.Activation) (xs : List S.Activation) → 0 < length xs → kinds_of (x ∷ xs) ≡ way_of x ∷ kinds_of xs
kinds_above x [] some = absurd (omega (arith, some))
kinds_above x (y ∷ ys) some = refl

pub kinds_behind : (x : S.Activation) (xs : List S.Activation) → kinds_of xs ≡ behind_kind (kinds_of (x ∷ xs))
kinds_behind x [] = refl
kinds_behind x (y ∷ ys) = refl

-- ---- units

-- the system's, or one of the program's for a condition, which an activation of height 1 has established
abbrev pub IsKnown : (known : ℕ → Y.Block → ℕ → Type 0) → (height frame : ℕ) → OnUnit → S.OnUnit → Type 0
IsKnown known height frame SystemUnit S.SystemUnit = Unit {0}
IsKnown known height frame (BlockUnit u) (S.CodeUnit at) = (height ≡ 1) × known frame u at
IsKnown known height frame _ _ = ⊥

abbrev pub AreKnown : (known : Condition → ℕ → Y.Block → ℕ → Type 0) → (height frame : ℕ) → List (Condition × OnUnit) → List (Condition × S.OnUnit) → Type 0
AreKnown known height frame [] [] = Unit {0}
AreKnown known height frame (p ∷ ps) (q ∷ qs) = ((p.0 ≡ q.0) × IsKnown (known p.0) height frame p.1 q.1) × AreKnown known height frame ps qs
AreKnown known height frame _ _ = ⊥

abbrev pub UnitsKnown : (known : Condition → ℕ → Y.Block → ℕ → Type 0) → List Activation → List S.Activation → Type 0
UnitsKnown known [] [] = Unit {0}
UnitsKnown known (a ∷ as') (x ∷ xs) = AreKnown known a.height x.frame a.units x.units × UnitsKnown known as' xs
UnitsKnown known _ _ = ⊥

-- ---- one that is taken away

less_by : (known : Condition → ℕ → Y.Block → ℕ → Type 0) (height frame : ℕ) (t : Bool) (p : Condition × OnUnit) (q : Condition × S.OnUnit) (ps rest : List (Condition × OnUnit)) (qs rest' : List (Condition × S.OnUnit)) → (p.0 ≡ q.0) × IsKnown (known p.0) height frame p.1 q.1 → AreKnown known height frame ps qs → AreKnown known height frame rest rest' → AreKnown known height frame (cond t ps (p ∷ rest)) (cond t qs (q ∷ rest'))
less_by known height frame true p q ps rest qs rest' one all less = all
less_by known height frame false p q ps rest qs rest' one all less = (one, less)

pub less_known : (known : Condition → ℕ → Y.Block → ℕ → Type 0) (height frame : ℕ) (c : Condition) (ps : List (Condition × OnUnit)) (qs : List (Condition × S.OnUnit)) → AreKnown known height frame ps qs → AreKnown known height frame (without_unit c ps) (without_unit c qs)
less_known known height frame c [] [] all = tt
less_known known height frame c [] (q ∷ qs) all = absurd all
less_known known height frame c (p ∷ ps) [] all = absurd all
less_known known height frame c (p ∷ ps) (q ∷ qs) all =
    subst (λ t. AreKnown known height frame (cond (same_condition p.0 c) ps (p ∷ without_unit c ps)) (cond t qs (q ∷ without_unit c qs)))
    (ap (λ d. same_condition d c) all.0.0)
    (less_by known height frame (same_condition p.0 c) p q ps (without_unit c ps) qs (without_unit c qs) all.0 all.1 (less_known known height frame c ps qs all.1))

-- ---- the one in force

-- of an activation and of the services' activation: none, or both
abbrev pub AreBoth : (known : ℕ → Y.Block → ℕ → Type 0) → Option (Activation × OnUnit) → Option (S.Activation × S.OnUnit) → Type 0
AreBoth known None None = Unit {0}
AreBoth known (Some p) (Some q) = IsKnown known p.0.height q.0.frame p.1 q.1
AreBoth known _ _ = ⊥

abbrev AreBothIf : (known : ℕ → Y.Block → ℕ → Type 0) → (height frame : ℕ) → Option OnUnit → Option S.OnUnit → Type 0
AreBothIf known height frame None None = Unit {0}
AreBothIf known height frame (Some u) (Some w) = IsKnown known height frame u w
AreBothIf known height frame _ _ = ⊥

both_by : (known : ℕ → Y.Block → ℕ → Type 0) (height frame : ℕ) (t : Bool) (u : OnUnit) (w : S.OnUnit) (o : Option OnUnit) (o' : Option S.OnUnit) → (t ≡ true → IsKnown known height frame u w) → AreBothIf known height frame o o' → AreBothIf known height frame (cond t (Some u) o) (cond t (Some w) o')
both_by known height frame true u w o o' one rest = one refl
both_by known height frame false u w o o' one rest = rest

both_for : (known : Condition → ℕ → Y.Block → ℕ → Type 0) (height frame : ℕ) (c : Condition) (ps : List (Condition × OnUnit)) (qs : List (Condition × S.OnUnit)) → AreKnown known height frame ps qs → AreBothIf (known c) height frame (unit_for ps c) (unit_for qs c)
both_for known height frame c [] [] all = tt
both_for known height frame c [] (q ∷ qs) all = absurd all
both_for known height frame c (p ∷ ps) [] all = absurd all
both_for known height frame c (p ∷ ps) (q ∷ qs) all =
    subst (λ t. AreBothIf (known c) height frame (cond (same_condition p.0 c) (Some p.1) (unit_for ps c)) (cond t (Some q.1) (unit_for qs c)))
    (ap (λ d. same_condition d c) all.0.0)
    (both_by (known c) height frame (same_condition p.0 c) p.1 q.1 (unit_for ps c) (unit_for qs c) (λ same. subst (λ d. IsKnown (known d) height frame p.1 q.1) (same_is p.0 c same) all.0.1) (both_for known height frame c ps qs all.1))

both_first : (known : ℕ → Y.Block → ℕ → Type 0) (a : Activation) (x : S.Activation) (o : Option OnUnit) (o' : Option S.OnUnit) (further : Option (Activation × OnUnit)) (further' : Option (S.Activation × S.OnUnit)) → AreBothIf known a.height x.frame o o' → AreBoth known further further' → AreBoth known (first_unit a o further) (first_unit x o' further')
both_first known a x None None further further' both rest = rest
both_first known a x None (Some w) further further' both rest = absurd both
both_first known a x (Some u) None further further' both rest = absurd both
both_first known a x (Some u) (Some w) further further' both rest = both

pub both_in_force : (known : Condition → ℕ → Y.Block → ℕ → Type 0) (as' : List Activation) (xs : List S.Activation) (c : Condition) → UnitsKnown known as' xs → AreBoth (known c) (force as' c) (U.force xs c)
both_in_force known [] [] c all = tt
both_in_force known [] (x ∷ xs) c all = absurd all
both_in_force known (a ∷ as') [] c all = absurd all
both_in_force known (a ∷ as') (x ∷ xs) c all =
    both_first (known c) a x (unit_for a.units c) (unit_for x.units c) (force as' c) (U.force xs c) (both_for known a.height x.frame c a.units x.units all.0) (both_in_force known as' xs c all.1)

-- there is none of the program's
abbrev pub NoUnit : (known : ℕ → Y.Block → ℕ → Type 0) → Type 0
NoUnit known = (frame : ℕ) (u : Y.Block) (at : ℕ) → known frame u at → ⊥
