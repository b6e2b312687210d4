-- What is spelled declares in source order: places of labels, procedures and names of DECLARE rise.
use Rattle.std.proofs.Common.{◌≡◌, ℕ, List, [], ◌++◌, Option, Some, None, map, refl, sym, ap, ◌∙◌, subst}
use Rattle.std.specs.Prelude.{⊤}
use Rattle.std.proofs.lemmas.List.{append_assoc, append-nil, map-append}
use Rattle.pli_language.specs.declared.expr.Place.{Place}
use Rattle.pli_language.specs.declared.fault.SourceFault.{SourceFault}
use Rattle.pli_language.specs.declared.token.Token.{Token}
use Rattle.pli_language.specs.Formats.{Direction, Getting, Putting}
use Rattle.pli_language.specs.Heads as H
use Rattle.pli_language.specs.Heads.{SpellsHead, SpellsSimple, moving}
use Rattle.pli_language.specs.Marks.{Marks}
use Rattle.pli_language.specs.Nesting.{Nest, OfGroup, OfWhile, OfCount, OfBegin, settled, begun, items_of_list}
use Rattle.pli_language.specs.Nesting.{with_statement, with_declaration, with_else, with_system, with_frames}
use Rattle.pli_language.specs.Nesting.{nest_faults, entered}
use Rattle.pli_language.specs.Parsing as P
use Rattle.pli_language.specs.Parsing.{Reads, before, faults_of}
use Rattle.pli_language.specs.Spells.{place_of}
use Rattle.pli_language.specs.Tree as T
use Rattle.well_formed_trees.specs.Placed.{name_places, places_in, stmt_places, PlacesKept}
use Rattle.well_formed_trees.proofs.Lists.{first_empty, second_empty}
use Rattle.well_formed_trees.proofs.Places.{same_some}
use Rattle.well_formed_trees.proofs.Nests.{OptFine}
use Rattle.well_formed_trees.proofs.TokensFit.{AllFit, from_here, tokens_fit}
use Rattle.well_formed_trees.proofs.TokenPlaces.{IsPart, ends, both_parts, part_rises, tokens_rise}
use Rattle.well_formed_trees.proofs.MarksClean.{parentheses_clean}
use Rattle.well_formed_trees.proofs.HeadsInRange.{labels_fit, head_fits, return_stands}
use Rattle.well_formed_trees.proofs.PlacesUsed.{Uses, labels_used, head_places, head_used}
use Rattle.well_formed_trees.proofs.PlacesNest.{list_places, items_are, frame_places, Placed, settled_placed}
use Rattle.well_formed_trees.proofs.PlacesEntered.{NestPlaced, begun_placed, opened_placed, then_placed, unit_placed}
use Rattle.well_formed_trees.proofs.PlacesEntered.{simple_placed, framed, end_placed, else_placed, system_placed}
use Rattle.well_formed_trees.proofs.PlacesEntered.{declaration_placed, front_placed}

-- ---- heads

-- a simple statement declares nothing
abbrev IsBare : H.Head → Type 0
IsBare (H.Simple x) = stmt_places x ≡ []
IsBare _ = ⊤

moving_bare : (d : Direction) (k : Option T.Skip) (ps : List T.EditPair) (p : Place)
    → stmt_places (moving d k ps p) ≡ []
moving_bare Getting k ps p = refl
moving_bare Putting k ps p = refl

simple_bare : {s : List ℕ} {ts rest : List Token} {m m' : Marks} {x : T.Stmt} → SpellsSimple s ts m x rest m'
    → stmt_places x ≡ []
simple_bare (H.move d ts after mid rest m t k ps o so se mo) = moving_bare d k ps (place_of t)
simple_bare _ = refl

head_bare : {s : List ℕ} {ts rest : List Token} {m m' : Marks} {h : H.Head} → SpellsHead s ts m h rest m' → IsBare h
head_bare (H.simple ts mid rest m m' u x sp taken) = simple_bare sp
head_bare _ = tt

-- what a head and its labels add
abbrev added : List T.Name → H.Head → List Place
added ls h = name_places ls ++ head_places h

-- the frames of a statement or of its front, with nothing but its labels
stated : (n : Nest) (ls : List T.Name) (o : _) {qs : List Place}
    → list_places n.outer ++ frame_places n.frames ≡ qs
    → OptFine (Placed (frame_places n.frames ++ name_places ls)) o
    → OptFine (NestPlaced (qs ++ (name_places ls ++ []))) (with_frames n.outer o)
stated n ls o {qs} e h =
    let k = framed n.outer (frame_places n.frames) (name_places ls) o h in
    let same : (list_places n.outer ++ frame_places n.frames) ++ name_places ls ≡ qs ++ (name_places ls ++ []) =
    ap (λ l. l ++ name_places ls) e ∙ ap (λ l. qs ++ l) (sym (append-nil (name_places ls))) in
    subst (λ l. OptFine (NestPlaced l) (with_frames n.outer o)) same k

-- the same with what the head itself adds
framed_same : (n : Nest) (more : List Place) (o : _) {qs : List Place}
    → list_places n.outer ++ frame_places n.frames ≡ qs → OptFine (Placed (frame_places n.frames ++ more)) o
    → OptFine (NestPlaced (qs ++ more)) (with_frames n.outer o)
framed_same n more o e h =
    subst (λ l. OptFine (NestPlaced (l ++ more)) (with_frames n.outer o)) e
    (framed n.outer (frame_places n.frames) more o h)

own_frames : {qs : List Place} (n : Nest) → NestPlaced qs n → Placed (frame_places n.frames) n.frames
own_frames n f = record { well = f.well; clear = f.clear; are = refl }

entered_placed : {qs : List Place} (n : Nest) (ls : List T.Name) (h : H.Head) → IsBare h → NestPlaced qs n
    → OptFine (NestPlaced (qs ++ added ls h)) (entered n ls h)
entered_placed {qs} n ls (H.ProcedureFront p parameters options) b f =
    let k = settled_placed n.frames (own_frames n f) in
    subst (λ l. OptFine (NestPlaced (l ++ added ls (H.ProcedureFront p parameters options)))
    (entered n ls (H.ProcedureFront p parameters options))) f.are
    (front_placed n.outer (settled n.frames) ls _ refl k)
entered_placed n ls (H.Declaring ds p) b f =
    let k = settled_placed n.frames (own_frames n f) in
    framed_same n (added ls (H.Declaring ds p)) (with_declaration (settled n.frames) ls (T.Declare ds p)) f.are
    (declaration_placed (settled n.frames) ls (T.Declare ds p) k.placed)
entered_placed n ls (H.EndOf name p) b f =
    let k = settled_placed n.frames (own_frames n f) in
    end_placed n.outer (settled n.frames) ls p k.placed.well k.placed.clear
    (ap (λ l. list_places n.outer ++ l) k.placed.are ∙ f.are)
entered_placed n ls (H.Else p) b f =
    framed_same n (added ls (H.Else p)) (with_else n.frames ls) f.are (else_placed n.frames ls (own_frames n f))
entered_placed n ls (H.System p) b f =
    let k = settled_placed n.frames (own_frames n f) in
    framed_same n (added ls (H.System p)) (with_system (settled n.frames) ls) f.are
    (system_placed (settled n.frames) ls k.placed)
entered_placed n ls (H.Simple x) b f =
    let k = settled_placed n.frames (own_frames n f) in
    stated n ls (with_statement (settled n.frames) ls (H.Simple x)) f.are (simple_placed (settled n.frames) ls x b k)
entered_placed n ls (H.IfThen c p) b f =
    let k = settled_placed n.frames (own_frames n f) in
    stated n ls (with_statement (settled n.frames) ls (H.IfThen c p)) f.are
    (then_placed (frame_places n.frames ++ name_places ls) (begun (settled n.frames) ls (H.IfThen c p)) c p
    (begun_placed (settled n.frames) ls (H.IfThen c p) k))
entered_placed n ls (H.DoGroup p) b f =
    let k = settled_placed n.frames (own_frames n f) in
    stated n ls (with_statement (settled n.frames) ls (H.DoGroup p)) f.are
    (opened_placed (frame_places n.frames ++ name_places ls) (begun (settled n.frames) ls (H.DoGroup p)) (OfGroup p)
    ls tt (begun_placed (settled n.frames) ls (H.DoGroup p) k))
entered_placed n ls (H.DoWhileGroup c p) b f =
    let k = settled_placed n.frames (own_frames n f) in
    stated n ls (with_statement (settled n.frames) ls (H.DoWhileGroup c p)) f.are
    (opened_placed (frame_places n.frames ++ name_places ls) (begun (settled n.frames) ls (H.DoWhileGroup c p))
    (OfWhile c p) ls tt (begun_placed (settled n.frames) ls (H.DoWhileGroup c p) k))
entered_placed n ls (H.DoCountGroup c p) b f =
    let k = settled_placed n.frames (own_frames n f) in
    stated n ls (with_statement (settled n.frames) ls (H.DoCountGroup c p)) f.are
    (opened_placed (frame_places n.frames ++ name_places ls) (begun (settled n.frames) ls (H.DoCountGroup c p))
    (OfCount c p) ls tt (begun_placed (settled n.frames) ls (H.DoCountGroup c p) k))
entered_placed n ls (H.BeginBlock p) b f =
    let k = settled_placed n.frames (own_frames n f) in
    stated n ls (with_statement (settled n.frames) ls (H.BeginBlock p)) f.are
    (opened_placed (frame_places n.frames ++ name_places ls) (begun (settled n.frames) ls (H.BeginBlock p))
    (OfBegin p) ls tt (begun_placed (settled n.frames) ls (H.BeginBlock p) k))
entered_placed n ls (H.On c p) b f =
    let k = settled_placed n.frames (own_frames n f) in
    stated n ls (with_statement (settled n.frames) ls (H.On c p)) f.are
    (unit_placed (frame_places n.frames ++ name_places ls) (begun (settled n.frames) ls (H.On c p)) c p
    (begun_placed (settled n.frames) ls (H.On c p) k))

-- ---- what is read

none_is : {X : Type 0} (x : X) (Q : Type 0) → None ≡ Some x → Q
none_is x Q e = absurd (cc e)

-- the tokens so far have the places of what is open
record Reached (tokens ts : List Token) (n : Nest) : Type 0 where
  read : List Token
  is : tokens ≡ read ++ ts
  places : List Place
  placed : NestPlaced places n
  part : IsPart places (map place_of read)

reached_end : {tokens : List Token} (n : Nest) → n.frames ≡ [] → Reached tokens [] n
    → IsPart (places_in (items_of_list n.outer)) (map place_of tokens)
reached_end {tokens} n done r =
    let all : tokens ≡ r.read = r.is ∙ append-nil r.read in
    let a : r.places ≡ places_in (items_of_list n.outer) =
    sym r.placed.are
    ∙ (ap (λ fs. list_places n.outer ++ frame_places fs) done
    ∙ (append-nil (list_places n.outer) ∙ sym (items_are n.outer))) in
    subst (λ ps. IsPart ps (map place_of tokens)) a (subst (λ l. IsPart r.places (map place_of l)) (sym all) r.part)

reached_next : {tokens ts mid rest : List Token} {n n' : Nest} (ls : List T.Name) (h : H.Head) → Reached tokens ts n
    → Uses ts mid (name_places ls) → Uses mid rest (head_places h)
    → ((qs : List Place) → NestPlaced qs n → NestPlaced (qs ++ added ls h) n') → Reached tokens rest n'
reached_next {rest = rest} ls h r a b f =
    let used = a.used ++ b.used in
    record {
      read = r.read ++ used;
      is =
          r.is
          ∙ (ap (λ l. r.read ++ l) (a.is ∙ (ap (λ l. a.used ++ l) b.is ∙ sym (append_assoc a.used b.used rest)))
          ∙ sym (append_assoc r.read used rest));
      places = r.places ++ added ls h;
      placed = f r.places r.placed;
      part =
          subst (IsPart (r.places ++ added ls h)) (sym (map-append place_of r.read used))
          (both_parts r.part (subst (IsPart (added ls h)) (sym (map-append place_of a.used b.used))
          (both_parts a.part b.part)));
    }

reads_placed : {s : List ℕ} {tokens : List Token} {n : Nest} {ts : List Token} {fs : List SourceFault}
    {found : Option T.Tree} → Reads s n ts fs found → fs ≡ [] → AllFit s ts ts → Reached tokens ts n → (tree : T.Tree)
    → found ≡ Some tree → IsPart (places_in tree.procedures) (map place_of tokens)
reads_placed {tokens = tokens} (P.all_read n done) e a r tree g =
    subst (λ t. IsPart (places_in t.procedures) (map place_of tokens)) (same_some _ tree g) (reached_end n done r)
reads_placed (P.head n n' ts mid rest ls h m fs found sl sh en more) e a r tree g =
    let own = faults_of mid rest m in
    let nested = nest_faults (settled n.frames) h in
    let clean = parentheses_clean 0 (before mid rest) m (first_empty own (nested ++ fs) e) in
    let later = second_empty own (nested ++ fs) e in
    let here = from_here (labels_fit sl a) in
    let b = head_fits (settled n.frames) sh clean (first_empty nested fs later) here (return_stands n n' ls h en) in
    reads_placed more (second_empty nested fs later) (from_here b.1)
    (reached_next ls h r (labels_used sl) (head_used sh here b.1)
    (λ qs k. subst (OptFine (NestPlaced (qs ++ added ls h))) en (entered_placed n ls h (head_bare sh) k))) tree g
reads_placed (P.too_early n ts ls sl o) e a r tree g = none_is tree _ g
reads_placed (P.misplaced_head n ts mid rest ls h m t p sl sh en mi) e a r tree g = none_is tree _ g
reads_placed (P.left_out n ts mid rest ls m t sl lo) e a r tree g = none_is tree _ g
reads_placed (P.no_head n ts mid ls t p sl nh nl re) e a r tree g = none_is tree _ g

pub places_kept : PlacesKept
places_kept s tokens tree t h =
    part_rises
    (reads_placed h refl (tokens_fit s tokens t)
    (record {
      read = [];
      is = refl;
      places = [];
      placed = record { well = tt; clear = tt; are = refl };
      part = ends;
    }) tree refl)
    (tokens_rise s tokens t)
