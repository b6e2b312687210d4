-- What services 1, 4, 5 and 31 answer at a point.
use Rattle.std.proofs.Common.{◌≡◌, ℕ, suc, ◌-◌, List, [], ◌∷◌, ◌++◌, length, map, Some, None, Bool, true, false}
use Rattle.std.proofs.Common.{refl, sym, ap, ◌∙◌, subst, arith}
use Rattle.std.specs.Prelude.{cond, nat_lt, nat_le, filter, drop}
use Rattle.std.proofs.lemmas.Bool.{le-leb}
use Rattle.std.proofs.lemmas.List.{length-append}
use Rattle.pli_typing.specs.TypedTree as Y
use Rattle.pli_meaning.specs.declared.outcome.End.TheVariants as E
use Rattle.pli_meaning.specs.declared.outcome.Limit.TheVariants as L
use Rattle.pli_meaning.specs.World.{counted}
use Rattle.pli_meaning.specs.StorageState.{State, Activation, most_activations, without_owner, newest_ended}
use Rattle.pli_meaning.specs.StorageState.{without_newest}
use Rattle.pli_meaning.specs.Raising.{Entry}
use Rattle.pli_serving.specs.ActsAndEnds as W
use Rattle.pli_serving.specs.ActsAndEnds.{run_ended}
use Rattle.pli_serving.specs.Answers.{Answer, Done, Bad}
use Rattle.pli_serving.specs.Blocks as B
use Rattle.pli_serving.specs.Blocks.{are_texts, Entered}
use Rattle.pli_serving.specs.Outcomes.{bad_unless, or_bad}
use Rattle.pli_serving.specs.ServiceState as S
use Rattle.pli_serving.specs.ServiceState.{Services, TextEntry}
use Rattle.storage_relation.specs.Served.{served_living}
use Rattle.storage_relation.specs.Stored.{AreLow}
use Rattle.storage_relation.proofs.FoundValues.{served_left}
use Rattle.activation_relation.specs.Layers.{Layer, Point, activation_of, services_of}
use Rattle.activation_relation.specs.Chains.{UnitPlaces, AreActive, IsActive}
use Rattle.activation_relation.specs.Changes.{with_line, with_act, pushed, popped, popped_from, Keeps, KeepsNone}
use Rattle.activation_relation.specs.Changes.{KeepsTop}
use Rattle.activation_relation.specs.Changes.{StandsOver}
use Rattle.activation_relation.specs.ServiceLaws.{at_point, HasActLeft, IsEntering, IsNewest}

-- ---- acts

pub act_answered :
    (p : Point) (m : List ℕ) (line : ℕ) → HasActLeft p →
    W.act_served (at_point p m) line 0 ≡ Done (services_of (with_act counted (with_line line p))) m line 0
act_answered p m line left =
    ap (λ q. cond q (Done (services_of (with_act counted (with_line line p))) m line 0) Bad) left

pub line_answered :
    (p : Point) (m : List ℕ) (line : ℕ) →
    W.act_served (at_point p m) line 1 ≡ Done (services_of (with_line line p)) m line 1
line_answered p m line = refl

-- ---- as many layers as activations

pub same_length :
    (units : UnitPlaces) (as' : List Activation) (φs : List Layer) → AreActive units as' φs → length φs ≡ length as'
same_length units [] [] h = refl
same_length units [] (φ ∷ φs) h = absurd h
same_length units (a ∷ as') [] h = absurd h
same_length units (a ∷ as') (φ ∷ φs) h = ap (λ n. suc n) (same_length units as' φs h.1)

map_length : (φs : List Layer) → length (map activation_of φs) ≡ length φs
map_length [] = refl
map_length (φ ∷ φs) = ap (λ n. suc n) (map_length φs)

pub served_length :
    (units : UnitPlaces) (as' : List Activation) (φs : List Layer) → AreActive units as' φs →
    length (map activation_of φs) ≡ length as'
served_length units as' φs h = map_length φs ∙ same_length units as' φs h

-- ---- a block is entered

entering :
    (p : Point) (m : List ℕ) (φ : Layer) (kind texts line : ℕ) (q : Bool) → IsEntering p φ kind texts →
    nat_lt (length (map activation_of p.control.layers)) most_activations ≡ q →
    B.enter_served (at_point p m) kind φ.at line texts
    ≡ cond q
    (Done (record (services_of p) {
      activations = activation_of φ ∷ map activation_of p.control.layers;
      waiting = None;
      line = line;
    }) m kind φ.at) (run_ended (E.Limit L.Depth) (services_of p))
entering p m φ kind texts line q is deep =
    let v = services_of p in
    let long = length-append is.arguments φ.entries in
    let many = is.many in
    let whole = ap (λ es. length es) is.below in
    let below : length p.control.entries - texts ≡ length φ.entries = omega (arith, long, many, whole) in
    let new : B.activation_of v (record { kind = φ.kind; line = φ.line }) φ.at texts ≡ activation_of φ =
    ap (λ n. record {
      kind = φ.kind;
      frame = φ.at;
      texts = n;
      edits = length p.control.edits;
      line = φ.line;
      units = [];
    }) below
    ∙ ap (λ xs. record {
      kind = φ.kind;
      frame = φ.at;
      texts = length φ.entries;
      edits = length xs;
      line = φ.line;
      units = [];
    }) (sym is.places)
    ∙ ap (λ us. record {
      kind = φ.kind;
      frame = φ.at;
      texts = length φ.entries;
      edits = length φ.edits;
      line = φ.line;
      units = us;
    }) (sym is.units)
    in
    let done : S.Activation → Answer = λ x. Done (record v {
      activations = x ∷ map activation_of p.control.layers;
      waiting = None;
      line = line;
    }) m kind φ.at in
    let over = run_ended (E.Limit L.Depth) v in
    let go : Entered → Answer = λ e. bad_unless (are_texts texts p.control.entries)
    (cond (nat_lt (length (map activation_of p.control.layers)) most_activations)
    (done (B.activation_of v e φ.at texts)) over) in
    ap (λ o. or_bad o go) is.entered
    ∙ ap (λ b. bad_unless b (cond (nat_lt (length (map activation_of p.control.layers)) most_activations)
    (done (B.activation_of v (record { kind = φ.kind; line = φ.line }) φ.at texts)) over)) is.given
    ∙ ap (λ b. cond b (done (B.activation_of v (record { kind = φ.kind; line = φ.line }) φ.at texts)) over) deep
    ∙ ap (λ x. cond q (done x) over) new

pub enter_answered :
    (units : UnitPlaces) (p : Point) (m : List ℕ) (head : Y.BlockHead) (entry : Entry) (φ : Layer)
    (kind texts line : ℕ) → AreActive units p.state.activations p.control.layers →
    IsEntering p φ kind texts → nat_lt (length p.state.activations) most_activations ≡ true →
    B.enter_served (at_point p m) kind φ.at line texts
    ≡ Done (services_of (pushed head entry φ line p)) m kind φ.at
enter_answered units p m head entry φ kind texts line active is few =
    entering p m φ kind texts line true is
    (ap (λ n. nat_lt n most_activations) (served_length units p.state.activations p.control.layers active) ∙ few)

pub depth_answered :
    (units : UnitPlaces) (p : Point) (m : List ℕ) (φ : Layer) (kind texts line : ℕ) →
    AreActive units p.state.activations p.control.layers → IsEntering p φ kind texts →
    nat_lt (length p.state.activations) most_activations ≡ false →
    B.enter_served (at_point p m) kind φ.at line texts ≡ run_ended (E.Limit L.Depth) (services_of p)
depth_answered units p m φ kind texts line active is many =
    entering p m φ kind texts line false is
    (ap (λ n. nat_lt n most_activations) (served_length units p.state.activations p.control.layers active) ∙ many)

-- ---- the newest block ends

oldest_back : {A : Type 0} (above below : List A) → B.oldest (length below) (above ++ below) ≡ below
oldest_back {A = A} above below =
    let long = length-append above below in
    let rest : length (above ++ below) - length below ≡ length above = omega (arith, long) in
    ap (λ n. drop n (above ++ below)) rest ∙ dropped above
  where
    dropped : (xs : List A) → drop (length xs) (xs ++ below) ≡ below
    dropped [] = refl
    dropped (x ∷ xs) = dropped xs

pub left_below : {A : Type 0} (below xs : List A) → StandsOver below xs → B.oldest (length below) xs ≡ below
left_below below xs over = ap (B.oldest (length below)) over.1 ∙ oldest_back over.0 below

pub kept_left :
    (keep : ℕ) (below entries kept : List S.Entry) → Keeps keep below entries kept →
    B.entries_left (length below) keep entries ≡ Some (kept ++ below)
kept_left _ _ _ _ (KeepsNone below entries over) = ap (λ es. Some es) (left_below below entries over)
kept_left _ _ _ _ (KeepsTop text below entries over) =
    let long = length-append over.0 below in
    let whole = ap (λ es. length es) over.1 in
    let few : nat_le (length below) (length entries) ≡ true =
    le-leb (length below) (length entries) (omega (arith, long, whole)) in
    ap (λ q. cond q (Some (TextEntry text ∷ B.oldest (length below) entries)) None) few
    ∙ ap (λ es. Some (TextEntry text ∷ es)) (left_below below entries over)

ended_by :
    (p : Point) (φ : Layer) (φs : List Layer) (a : Activation) (as' : List Activation) (keep : ℕ)
    (kept : List S.Entry) → p.control.layers ≡ φ ∷ φs → p.state.activations ≡ a ∷ as' → a.height ≡ suc (length as') →
    length (map activation_of φs) ≡ length as' → AreLow (suc (length as')) p.state.living →
    Keeps keep φ.entries p.control.entries kept → StandsOver φ.edits p.control.edits →
    B.newest_ended (services_of p) keep (activation_of φ) (map activation_of φs) ≡ Some (services_of (popped kept p))
ended_by p φ φs a as' keep kept newest first height few low keeps over =
    let v = services_of p in
    let n = length as' in
    let left = map activation_of φs in
    let with' : List S.Living → List S.EditPlace → Services = λ ls xs. record v {
      activations = left;
      living = ls;
      entries = kept ++ φ.entries;
      edits = xs;
      line = φ.line;
    } in
    let after : State = record p.state { living = without_owner a.height p.state.living; activations = as' } in
    let ended : newest_ended p.state ≡ after = ap (λ xs. without_newest xs p.state) first in
    let living : filter (λ (l : S.Living). nat_le l.owner (length left)) v.living
    ≡ map (served_living p.places) after.living =
    ap (λ c. filter (λ (l : S.Living). nat_le l.owner c) v.living) few
    ∙ served_left p.places n p.state.living low
    ∙ ap (λ h. map (served_living p.places) (without_owner h p.state.living)) (sym height)
    in
    ap (B.ended_with (record v { line = φ.line }) left (length φ.edits))
    (kept_left keep φ.entries p.control.entries kept keeps)
    ∙ ap (λ ls. Some (with' ls (B.oldest (length φ.edits) p.control.edits))) living
    ∙ ap (λ xs. Some (with' (map (served_living p.places) after.living) xs)) (left_below φ.edits p.control.edits over)
    ∙ ap (λ t. Some (services_of (record (popped_from kept (φ ∷ φs) p) { state = t }))) (sym ended)
    ∙ ap (λ φs. Some (services_of (popped_from kept φs p))) (sym newest)

-- the two lists side by side, where a layer is newest
pub record Newest (units : UnitPlaces) (p : Point) (φ : Layer) (φs : List Layer) : Type 0 where
  pub activation : Activation
  pub others : List Activation
  pub first : p.state.activations ≡ activation ∷ others
  pub is : IsActive units activation others φ
  pub rest : AreActive units others φs

newest_by :
    (units : UnitPlaces) (p : Point) (φ : Layer) (φs : List Layer) (as' : List Activation) →
    p.state.activations ≡ as' → AreActive units as' (φ ∷ φs) → Newest units p φ φs
newest_by units p φ φs [] e h = absurd h
newest_by units p φ φs (a ∷ as') e h = record { activation = a; others = as'; first = e; is = h.0; rest = h.1 }

pub newest_of :
    (units : UnitPlaces) (p : Point) (φ : Layer) (φs : List Layer) →
    AreActive units p.state.activations p.control.layers → p.control.layers ≡ φ ∷ φs → Newest units p φ φs
newest_of units p φ φs active newest =
    newest_by units p φ φs p.state.activations refl (subst (AreActive units p.state.activations) newest active)

pub end_answered :
    (units : UnitPlaces) (p : Point) (φ : Layer) (φs : List Layer) (keep : ℕ) (kept : List S.Entry) →
    IsNewest units p φ φs → Keeps keep φ.entries p.control.entries kept → StandsOver φ.edits p.control.edits →
    B.newest_ended (services_of p) keep (activation_of φ) (map activation_of φs) ≡ Some (services_of (popped kept p))
end_answered units p φ φs keep kept is keeps over =
    let n = newest_of units p φ φs is.active is.newest in
    let low = subst (λ (xs : List Activation). AreLow (length xs) p.state.living) n.first is.low in
    ended_by p φ φs n.activation n.others keep kept is.newest n.first n.is.height
    (served_length units n.others φs n.rest) low keeps over

pub leave_answered :
    (units : UnitPlaces) (p : Point) (m : List ℕ) (φ : Layer) (φs : List Layer) (keep a1 : ℕ)
    (kept : List S.Entry) → IsNewest units p φ φs → Keeps keep φ.entries p.control.entries kept →
    StandsOver φ.edits p.control.edits →
    B.leave_served (at_point p m) keep a1 ≡ Done (services_of (popped kept p)) m keep a1
leave_answered units p m φ φs keep a1 kept is keeps over =
    ap (λ φs. B.left_by (at_point p m) keep a1 (map activation_of φs)) is.newest
    ∙ ap (λ o. or_bad o (λ v. Done v m keep a1)) (end_answered units p φ φs keep kept is keeps over)

pub return_answered :
    (units : UnitPlaces) (p : Point) (m : List ℕ) (φ : Layer) (φs : List Layer) (code resume : ℕ) →
    IsNewest units p φ φs → φ.kind ≡ S.OnUnitBlock code resume → Keeps 0 φ.entries p.control.entries [] →
    StandsOver φ.edits p.control.edits →
    B.return_served (at_point p m) ≡ Done (services_of (popped [] p)) m resume code
return_answered units p m φ φs code resume is kind keeps over =
    let ended = end_answered units p φ φs 0 [] is keeps over in
    ap (λ φs. B.returned_by (at_point p m) (map activation_of φs)) is.newest
    ∙ ap (λ k. B.unit_left (at_point p m) k
    (B.newest_ended (services_of p) 0 (activation_of φ) (map activation_of φs))) kind
    ∙ ap (λ o. or_bad o (λ v. Done v m resume code)) ended
