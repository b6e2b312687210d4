-- All heads of what fitting tokens spell are in range.
use Rattle.std.proofs.Common.{◌≡◌, ℕ, ◌<◌, Bool, true, false, not, ◌||◌, List, [], ◌∷◌, ◌++◌, Option, Some, None}
use Rattle.std.proofs.Common.{refl, subst, if◌then◌else◌, arith}
use Rattle.std.specs.Prelude.{nat_le}
use Rattle.std.proofs.lemmas.Bool.Decides.{nat_tests}
use Rattle.pli_language.specs.declared.expr.Place.{Place}
use Rattle.pli_language.specs.declared.fault.SourceFault.{SourceFault}
use Rattle.pli_language.specs.declared.token.Token.{Token}
use Rattle.pli_language.specs.Heads as H
use Rattle.pli_language.specs.Heads.{SpellsHead}
use Rattle.pli_language.specs.Marks.{Marks, no_marks}
use Rattle.pli_language.specs.Nesting.{Frame, Nest, settled, blocks, units, too_many, nest_faults, most_blocks}
use Rattle.pli_language.specs.Nesting.{most_units, entered, is_return, may_return, with_frames}
use Rattle.pli_language.specs.Parsing as P
use Rattle.pli_language.specs.Parsing.{SpellsLabels, Reads, before, faults_of}
use Rattle.pli_language.specs.Tree as T
use Rattle.well_formed_trees.specs.Spelled.{RangedSimple, MayStand, IsRanged, StmtHas, ItemsHave, RangesKept}
use Rattle.well_formed_trees.proofs.Places.{same_some}
use Rattle.well_formed_trees.proofs.Lists.{first_empty, second_empty}
use Rattle.well_formed_trees.proofs.Nests.{OptFine}
use Rattle.well_formed_trees.proofs.HeadNests.{HeadHas, NestHas, items_have, entered_has}
use Rattle.well_formed_trees.proofs.TokensFit.{AllFit, behind, first_fits, tokens_fit}
use Rattle.well_formed_trees.proofs.SpelledExpressions.{expr_fits}
use Rattle.well_formed_trees.proofs.SpelledDeclarations.{items_fit}
use Rattle.well_formed_trees.proofs.MarksClean.{IsClean, parentheses_clean}
use Rattle.well_formed_trees.proofs.SpelledHeads.{opened_fits, opened_line, condition_fits, parameters_fit}
use Rattle.well_formed_trees.proofs.SpelledHeads.{options_fit, in_parentheses_fits, counting_fits, simple_fits}

-- ---- how deep

room_by : (most count : ℕ) (b : Bool) (f : SourceFault) → nat_le most count ≡ b → (if b then f ∷ [] else []) ≡ []
    → count < most
room_by most count true f e h = absurd (cc h)
room_by most count false f e h = grind (arith, nat_tests)

room : (most count : ℕ) (p : Place) → too_many most count p ≡ [] → count < most
room most count p h = room_by most count (nat_le most count) _ refl h

-- ---- heads

simple_has : (b u : ℕ) (r : Bool) (x : T.Stmt) → RangedSimple x × MayStand r x → StmtHas IsRanged b u r x
simple_has b u r (T.Null p) h = h
simple_has b u r (T.Assign target e p) h = h
simple_has b u r (T.Call n a p) h = h
simple_has b u r (T.Return v p) h = h
simple_has b u r (T.Goto l p) h = h
simple_has b u r (T.Stop p) h = h
simple_has b u r (T.Signal c p) h = h
simple_has b u r (T.Revert c p) h = h
simple_has b u r (T.Allocate as' p) h = h
simple_has b u r (T.Free fs p) h = h
simple_has b u r (T.Get k ps p) h = h
simple_has b u r (T.Put k ps p) h = h
simple_has b u r _ h = absurd h.0

may_stand : (r : Bool) (x : T.Stmt) → (is_return (H.Simple x) ≡ true → r ≡ true) → MayStand r x
may_stand r (T.Return value place) may = may refl
may_stand r _ may = tt

-- a RETURN that may stand stands where one may
returns_by : (b : Bool) (n n' : Nest) (o : Option (List Frame))
    → with_frames n.outer (if not true || b then o else None) ≡ Some n' → b ≡ true
returns_by true n n' o e = refl
returns_by false n n' o e = absurd (cc e)

pub return_stands : (n n' : Nest) (ls : List T.Name) (h : H.Head) → entered n ls h ≡ Some n' → is_return h ≡ true
    → may_return (settled n.frames) ≡ true
return_stands n n' ls (H.Simple (T.Return value place)) e r = returns_by (may_return (settled n.frames)) n n' _ e
return_stands n n' ls _ e r = absurd (cc r)

pub head_fits : {s : List ℕ} {all ts rest : List Token} {h : H.Head} {m : Marks} (fs : List Frame)
    → SpellsHead s ts no_marks h rest m → IsClean m → nest_faults fs h ≡ [] → AllFit s all ts
    → (returns_may : is_return h ≡ true → may_return fs ≡ true)
    → HeadHas IsRanged (blocks fs) (units fs) (may_return fs) h × AllFit s all rest
head_fits fs (H.procedure ts after mid at rest m t u ns os o names options closed) e n h may =
    let a = options_fit options (parameters_fit names (opened_fits o h)) in
    ((a.0, (opened_line o h, room most_blocks (blocks fs) _ n)), behind closed a.1)
head_fits fs (H.declare ts after mid rest m t u ds o sp closed) e n h may =
    let a = items_fit sp (opened_fits o h) in
    (a.0, behind closed a.1)
head_fits fs (H.simple ts mid rest m m' u x sp closed) e n h may =
    let a = simple_fits sp e h in
    (simple_has (blocks fs) (units fs) (may_return fs) x (a.0, may_stand (may_return fs) x may), behind closed a.1)
head_fits fs (H.if_then ts after mid rest m t u c o sp closed) e n h may =
    let a = expr_fits sp (opened_fits o h) in
    ((a.0, (opened_line o h, room most_units (units fs) _ n)), behind closed a.1)
head_fits fs (H.else' ts rest m t o) e n h may = (tt, opened_fits o h)
head_fits fs (H.do_group ts after rest m t u o closed) e n h may =
    ((opened_line o h, room most_units (units fs) _ n), behind closed (opened_fits o h))
head_fits fs (H.do_while ts after mid at rest m t u v c o while sp closed) e n h may =
    let a = in_parentheses_fits sp (behind while (opened_fits o h)) in
    ((a.0, (opened_line o h, room most_units (units fs) _ n)), behind closed a.1)
head_fits fs (H.do_count ts after mid rest m m' t u c o sp closed) e n h may =
    let a = counting_fits sp (opened_fits o h) in
    ((a.0, (opened_line o h, room most_units (units fs) _ n)), behind closed a.1)
head_fits fs (H.begin ts after rest m t u o closed) e n h may =
    ((opened_line o h, room most_blocks (blocks fs) _ n), behind closed (opened_fits o h))
head_fits fs (H.on ts after rest m t c o sp) e n h may =
    ((opened_line o h, room most_units (units fs) _ n), condition_fits sp (opened_fits o h))
head_fits fs (H.system ts after rest m t u o closed) e n h may = (tt, behind closed (opened_fits o h))
head_fits fs (H.unnamed_end ts after rest m t u o closed) e n h may = (tt, behind closed (opened_fits o h))
head_fits fs (H.named_end ts after mid rest m t u v word o named closed) e n h may =
    (tt, behind closed (behind named (opened_fits o h)))

-- ---- what is read

pub labels_fit : {s : List ℕ} {all ts rest : List Token} {ls : List T.Name} → SpellsLabels s ts ls rest
    → AllFit s all ts
    → AllFit s all rest
labels_fit (P.no_label ts none) h = h
labels_fit (P.label ts after rest t u word ls is ahead more) h =
    labels_fit more (first_fits refl (first_fits is h).1).1

none_is : {X : Type 0} (x : X) (Q : Type 0) → None ≡ Some x → Q
none_is x Q e = absurd (cc e)

some_is : (P : Type 0) (f : SourceFault) (fs : List SourceFault) → f ∷ fs ≡ [] → P
some_is P f fs e = absurd (cc e)

reads_ranged : {s : List ℕ} {all : List Token} {n : Nest} {ts : List Token} {fs : List SourceFault}
    {found : Option T.Tree}
    → Reads s n ts fs found → fs ≡ [] → AllFit s all ts → NestHas IsRanged n → (tree : T.Tree) → found ≡ Some tree
    → ItemsHave IsRanged 0 0 false tree.procedures
reads_ranged (P.all_read n done) e a h tree g =
    subst (λ t. ItemsHave IsRanged 0 0 false t.procedures) (same_some _ tree g)
    (items_have IsRanged 0 0 false n.outer h.outer)
reads_ranged (P.head n n' ts mid rest ls h m fs found sl sh en more) e a k tree g =
    let own = faults_of mid rest m in
    let nested = nest_faults (settled n.frames) h in
    let clean = parentheses_clean 0 (before mid rest) m (first_empty own (nested ++ fs) e) in
    let later = second_empty own (nested ++ fs) e in
    let b = head_fits (settled n.frames) sh clean (first_empty nested fs later) (labels_fit sl a)
    (return_stands n n' ls h en) in
    reads_ranged more (second_empty nested fs later) b.1
    (subst (OptFine (NestHas IsRanged)) en (entered_has IsRanged n ls h b.0 k)) tree g
reads_ranged (P.too_early n ts ls sl o) e a k tree g = none_is tree _ g
reads_ranged (P.misplaced_head n ts mid rest ls h m t p sl sh en mi) e a k tree g = none_is tree _ g
reads_ranged (P.left_out n ts mid rest ls m t sl lo) e a k tree g = none_is tree _ g
reads_ranged (P.no_head n ts mid ls t p sl nh nl re) e a k tree g = none_is tree _ g

pub ranges_kept : RangesKept
ranges_kept s tokens tree t h =
    reads_ranged h refl (tokens_fit s tokens t) (record { outer = tt; frames = tt }) tree refl
