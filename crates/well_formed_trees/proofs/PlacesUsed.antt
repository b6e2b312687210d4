-- The tokens that spell labels and heads have the places of what these declare, in order.
use Rattle.std.proofs.Common.{◌≡◌, ℕ, List, [], ◌∷◌, ◌++◌, map, refl, sym, ap, ◌∙◌, subst}
use Rattle.std.proofs.lemmas.List.{append_assoc, append-nil, map-append}
use Rattle.pli_language.specs.declared.expr.Place.{Place}
use Rattle.pli_language.specs.declared.token.Kind.{Kind}
use Rattle.pli_language.specs.declared.token.Token.{Token}
use Rattle.pli_language.specs.Attributes as A
use Rattle.pli_language.specs.Attributes.{SpellsDeclaredName, SpellsDeclaredNames, ItemFront, SpellsFront}
use Rattle.pli_language.specs.Attributes.{SpellsDeclareItem, SpellsDeclareItems}
use Rattle.pli_language.specs.Heads as H
use Rattle.pli_language.specs.Heads.{SpellsHead, Opens}
use Rattle.pli_language.specs.Marks.{Marks, no_marks}
use Rattle.pli_language.specs.Parsing as P
use Rattle.pli_language.specs.Parsing.{SpellsLabels}
use Rattle.pli_language.specs.Spells.{Takes, place_of}
use Rattle.pli_language.specs.Tree as T
use Rattle.well_formed_trees.specs.Placed.{name_places, declared_places}
use Rattle.well_formed_trees.proofs.TokenPlaces.{IsPart, ends, skips, keeps, none_part, both_parts}
use Rattle.well_formed_trees.proofs.TokensFit.{AllFit, from_here, first_fits, behind}
use Rattle.well_formed_trees.proofs.SpelledHeads.{opened_fits, parameters_fit, options_fit}
use Rattle.well_formed_trees.proofs.SpelledDeclarations.{dimensions_fit, attributes_fit, level_fits}

-- these tokens, up to the rest, have these places among theirs
pub record Uses (ts rest : List Token) (ps : List Place) : Type 0 where
  pub used : List Token
  pub is : ts ≡ used ++ rest
  pub part : IsPart ps (map place_of used)

uses_then : {ts mid rest : List Token} {ps qs : List Place} → Uses ts mid ps → Uses mid rest qs
    → Uses ts rest (ps ++ qs)
uses_then {rest = rest} {ps = ps} {qs = qs} a b = record {
  used = a.used ++ b.used;
  is = a.is ∙ (ap (λ l. a.used ++ l) b.is ∙ sym (append_assoc a.used b.used rest));
  part = subst (IsPart (ps ++ qs)) (sym (map-append place_of a.used b.used)) (both_parts a.part b.part);
}

uses_none : {s : List ℕ} {ts rest : List Token} → AllFit s ts rest → Uses ts rest []
uses_none h = record { used = h.before; is = h.is_end; part = none_part (map place_of h.before) }

uses_first : {ts rest : List Token} (t : Token) → ts ≡ t ∷ rest → Uses ts rest (place_of t ∷ [])
uses_first t e = record { used = t ∷ []; is = e; part = keeps (place_of t) [] [] ends }

uses_one : {ts rest : List Token} {k : Kind} {t : Token} → Takes ts k t rest → Uses ts rest []
uses_one {t = t} taken = record { used = t ∷ []; is = taken.is; part = skips (place_of t) [] [] ends }

uses_same : {ts rest : List Token} {ps qs : List Place} → ps ≡ qs → Uses ts rest ps → Uses ts rest qs
uses_same {ts} {rest} e h = subst (Uses ts rest) e h

-- what stands behind a use fits, too
used_fits : {s : List ℕ} {all ts rest : List Token} {ps : List Place} → Uses ts rest ps → AllFit s all ts
    → AllFit s all rest
used_fits {s} {all} {rest = rest} u h = after u.used (subst (AllFit s all) u.is h) where
  after : (used : List Token) → AllFit s all (used ++ rest) → AllFit s all rest
  after [] h = h
  after (t ∷ used) h = after used (first_fits refl h).1

-- ---- labels

pub labels_used : {s : List ℕ} {ts rest : List Token} {ls : List T.Name} → SpellsLabels s ts ls rest
    → Uses ts rest (name_places ls)
labels_used (P.no_label ts none) = record { used = []; is = refl; part = ends }
labels_used (P.label ts after rest t u word ls is ahead more) =
    uses_then (uses_first t is) (uses_then (uses_one {t = u} (record { is = refl; of_kind = refl })) (labels_used more))

-- ---- DECLARE

declared_name_used : {s : List ℕ} {all ts rest : List Token} {d : T.DeclaredName} → SpellsDeclaredName s ts d rest
    → AllFit s all ts → Uses ts rest (d.name.place ∷ [])
declared_name_used (A.declared_name ts after rest t word bs taken bounds) h =
    uses_then (uses_first t taken.is) (uses_none (dimensions_fit bounds (from_here (behind taken h))).1)

declared_names_used : {s : List ℕ} {all ts rest : List Token} {ds : List T.DeclaredName}
    → SpellsDeclaredNames s ts ds rest → AllFit s all ts → Uses ts rest (map (λ d. d.name.place) ds)
declared_names_used (A.one_name ts rest d sp none) h = declared_name_used sp h
declared_names_used (A.further_names ts mid after rest t d ds sp comma more) h =
    let a = declared_name_used sp h in
    uses_then a (uses_then (uses_one comma) (declared_names_used more (behind comma (used_fits a h))))

front_used : {s : List ℕ} {all ts rest : List Token} {f : ItemFront} → SpellsFront s ts f rest → AllFit s all ts
    → Uses ts rest (map (λ d. d.name.place) f.names)
front_used (A.single ts mid rest n d before sp) h =
    uses_then (uses_none (level_fits before (from_here h))) (declared_name_used sp (level_fits before h))
front_used (A.factored ts mid after inside at rest t u n ds bs before opened sp closed bounds) h =
    let k = behind opened (level_fits before h) in
    let a = declared_names_used sp k in
    uses_same (append-nil (map (λ d. d.name.place) ds))
    (uses_then (uses_none (level_fits before (from_here h)))
    (uses_then (uses_one opened)
    (uses_then a
    (uses_then (uses_one closed)
    (uses_none (dimensions_fit bounds (from_here (behind closed (used_fits a k)))).1)))))

item_used : {s : List ℕ} {all ts rest : List Token} {d : T.DeclareItem} → SpellsDeclareItem s ts d rest
    → AllFit s all ts → Uses ts rest (map (λ d. d.name.place) d.names)
item_used (A.declare_item ts mid rest f attributes front sp) h =
    let a = front_used front h in
    uses_same (append-nil (map (λ d. d.name.place) f.names))
    (uses_then a (uses_none (attributes_fit sp (from_here (used_fits a h))).1))

items_used : {s : List ℕ} {all ts rest : List Token} {ds : List T.DeclareItem} → SpellsDeclareItems s ts ds rest
    → AllFit s all ts → Uses ts rest (declared_places ds)
items_used (A.one_item ts rest d sp none) h =
    uses_same (sym (append-nil (map (λ d. d.name.place) d.names))) (item_used sp h)
items_used (A.further_items ts mid after rest t d ds sp comma more) h =
    let a = item_used sp h in
    uses_then a (uses_then (uses_one comma) (items_used more (behind comma (used_fits a h))))

-- ---- heads

abbrev pub head_places : H.Head → List Place
head_places (H.ProcedureFront place parameters options) = place ∷ []
head_places (H.Declaring items place) = declared_places items
head_places _ = []

-- a procedure's and a declaration's head begin with a word, behind which the rest stands
pub head_used : {s : List ℕ} {all ts rest : List Token} {h : H.Head} {m : Marks} → SpellsHead s ts no_marks h rest m
    → AllFit s all ts → AllFit s ts rest → Uses ts rest (head_places h)
head_used (H.procedure ts after mid at rest m t u ns os o names options closed) h k =
    let j = from_here (opened_fits o h) in
    uses_then (uses_first t o.taken.is)
    (uses_none (behind closed (options_fit options (parameters_fit names j)).1))
head_used (H.declare ts after mid rest m t u ds o sp closed) h k =
    let a = items_used sp (behind o.taken h) in
    uses_same (append-nil (declared_places ds)) (uses_then (uses_one o.taken) (uses_then a (uses_one closed)))
head_used (H.simple ts mid rest m m' u x sp closed) h k = uses_none k
head_used (H.if_then ts after mid rest m t u c o sp closed) h k = uses_none k
head_used (H.else' ts rest m t o) h k = uses_none k
head_used (H.do_group ts after rest m t u o closed) h k = uses_none k
head_used (H.do_while ts after mid at rest m t u v c o word sp closed) h k = uses_none k
head_used (H.do_count ts after mid rest m m' t u c o sp closed) h k = uses_none k
head_used (H.begin ts after rest m t u o closed) h k = uses_none k
head_used (H.on ts after rest m t c o sp) h k = uses_none k
head_used (H.system ts after rest m t u o closed) h k = uses_none k
head_used (H.unnamed_end ts after rest m t u o closed) h k = uses_none k
head_used (H.named_end ts after mid rest m t u v word o named closed) h k = uses_none k
