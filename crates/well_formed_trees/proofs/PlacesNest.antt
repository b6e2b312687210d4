-- What is open has the places of what was read, in order.
use Rattle.std.proofs.Common.{◌≡◌, List, [], ◌∷◌, ◌++◌, refl, sym, ap, ◌∙◌}
use Rattle.std.specs.Prelude.{⊤}
use Rattle.std.proofs.lemmas.List.{append_assoc, append-nil}
use Rattle.pli_language.specs.declared.expr.Place.{Place}
use Rattle.pli_language.specs.Nesting.{Opener, OfProcedure, OfGroup, OfWhile, OfCount, OfBegin, Frame, InList}
use Rattle.pli_language.specs.Nesting.{ThenDue, ThenWhole, ElseDue, UnitDue, items_of_list, completed, closed}
use Rattle.pli_language.specs.Nesting.{settled}
use Rattle.pli_language.specs.Tree as T
use Rattle.well_formed_trees.specs.Placed.{name_places, places_in, item_places, stmt_places}

-- ---- places of what is open

abbrev pub list_places : List T.Item → List Place
list_places [] = []
list_places (i ∷ is) = item_places i ++ list_places is

pub list_append : (is js : List T.Item) → list_places (is ++ js) ≡ list_places is ++ list_places js
list_append [] js = refl
list_append (i ∷ is) js =
    ap (λ l. item_places i ++ l) (list_append is js)
    ∙ sym (append_assoc (item_places i) (list_places is) (list_places js))

pub items_are : (is : List T.Item) → places_in (items_of_list is) ≡ list_places is
items_are [] = refl
items_are (i ∷ is) = ap (λ l. item_places i ++ l) (items_are is)

abbrev pub opener_places : Opener → List Place
opener_places (OfProcedure h) = name_places h.labels ++ h.place ∷ []
opener_places _ = []

abbrev pub own_places : Frame → List Place
own_places (InList o labels items pending) = opener_places o ++ (list_places items ++ name_places pending)
own_places (ThenDue e p) = []
own_places (ThenWhole e u p) = stmt_places u
own_places (ElseDue e u p) = stmt_places u
own_places (UnitDue c p) = []

abbrev pub frame_places : List Frame → List Place
frame_places [] = []
frame_places (f ∷ fs) = frame_places fs ++ own_places f

-- ---- what is so of what is open

-- no labels wait where the next head begins
abbrev pub IsClear : List Frame → Type 0
IsClear (InList o labels items pending ∷ fs) = pending ≡ []
IsClear _ = ⊤

abbrev pub IsDue : List Frame → Type 0
IsDue (ThenWhole e u p ∷ fs) = ⊥
IsDue _ = ⊤

abbrev pub IsSome : List Frame → Type 0
IsSome [] = ⊥
IsSome (f ∷ fs) = ⊤

abbrev pub StandsOn : Frame → List Frame → Type 0
StandsOn (InList (OfProcedure h) labels items pending) fs = IsClear fs
StandsOn _ fs = IsSome fs

abbrev pub AreWell : List Frame → Type 0
AreWell [] = ⊤
AreWell (f ∷ fs) = IsDue fs × (StandsOn f fs × AreWell fs)

-- frames with these places, where a head may follow
pub record Placed (ps : List Place) (fs : List Frame) : Type 0 where
  pub well : AreWell fs
  pub clear : IsClear fs
  pub are : frame_places fs ≡ ps

-- the same list over frames, with other items
pub relisted : (o : Opener) (l l' : List T.Name) (is js : List T.Item) (p q : List T.Name) (fs : List Frame)
    → AreWell (InList o l is p ∷ fs) → AreWell (InList o l' js q ∷ fs)
relisted (OfProcedure h) l l' is js p q fs w = w
relisted (OfGroup r) l l' is js p q fs w = w
relisted (OfWhile e r) l l' is js p q fs w = w
relisted (OfCount c r) l l' is js p q fs w = w
relisted (OfBegin r) l l' is js p q fs w = w

-- a list with a statement more
listed_are : (o : Opener) (items : List T.Item) (pending : List T.Name) (x : T.Stmt) (below : List Place)
    → below ++ (opener_places o ++ (list_places (items ++ T.Statement pending x ∷ []) ++ []))
    ≡ (below ++ (opener_places o ++ (list_places items ++ name_places pending))) ++ stmt_places x
listed_are o items pending x below =
    let ps = list_places items in
    let ns = name_places pending in
    let xs = stmt_places x in
    let a : list_places (items ++ T.Statement pending x ∷ []) ≡ ps ++ (ns ++ xs) =
    list_append items (T.Statement pending x ∷ []) ∙ ap (λ l. ps ++ l) (append-nil (ns ++ xs)) in
    let b : list_places (items ++ T.Statement pending x ∷ []) ++ [] ≡ (ps ++ ns) ++ xs =
    append-nil (list_places (items ++ T.Statement pending x ∷ [])) ∙ (a ∙ sym (append_assoc ps ns xs)) in
    ap (λ l. below ++ (opener_places o ++ l)) b
    ∙ (ap (λ l. below ++ l) (sym (append_assoc (opener_places o) (ps ++ ns) xs))
    ∙ sym (append_assoc below (opener_places o ++ (ps ++ ns)) xs))

pub completed_placed : (x : T.Stmt) (fs : List Frame) → IsSome fs → IsDue fs → AreWell fs
    → Placed (frame_places fs ++ stmt_places x) (completed x fs)
unfolding completed
completed_placed x [] s d w = absurd s
completed_placed x (InList o labels items pending ∷ fs) s d w =
    record {
      well = relisted o labels labels items (items ++ T.Statement pending x ∷ []) pending [] fs w;
      clear = refl;
      are = listed_are o items pending x (frame_places fs);
    }
completed_placed x (ThenDue c p ∷ fs) s d w =
    record { well = w; clear = tt; are = ap (λ l. l ++ stmt_places x) (sym (append-nil (frame_places fs))) }
completed_placed x (ThenWhole c y p ∷ fs) s d w = absurd d
completed_placed x (ElseDue c y p ∷ fs) s d w =
    let k = completed_placed (T.IfElse c y x p) fs w.1.0 w.0 w.1.1 in
    record {
      well = k.well;
      clear = k.clear;
      are = k.are ∙ sym (append_assoc (frame_places fs) (stmt_places y) (stmt_places x));
    }
completed_placed x (UnitDue c p ∷ fs) s d w =
    let k = completed_placed (T.OnUnit c x p) fs w.1.0 w.0 w.1.1 in
    record {
      well = k.well;
      clear = k.clear;
      are = k.are ∙ ap (λ l. l ++ stmt_places x) (sym (append-nil (frame_places fs)));
    }

-- and no ELSE is to come
pub record Settled (ps : List Place) (fs : List Frame) : Type 0 where
  pub placed : Placed ps fs
  pub due : IsDue fs

closed_placed : (x : T.Stmt) (fs : List Frame) → IsSome fs → IsDue fs → AreWell fs
    → Settled (frame_places fs ++ stmt_places x) (closed x fs)
unfolding closed
closed_placed x [] s d w = absurd s
closed_placed x (InList o labels items pending ∷ fs) s d w =
    record {
      placed = record {
        well = relisted o labels labels items (items ++ T.Statement pending x ∷ []) pending [] fs w;
        clear = refl;
        are = listed_are o items pending x (frame_places fs);
      };
      due = tt;
    }
closed_placed x (ThenDue c p ∷ fs) s d w =
    let k = closed_placed (T.If c x p) fs w.1.0 w.0 w.1.1 in
    record {
      placed = record {
        well = k.placed.well;
        clear = k.placed.clear;
        are = k.placed.are ∙ ap (λ l. l ++ stmt_places x) (sym (append-nil (frame_places fs)));
      };
      due = k.due;
    }
closed_placed x (ThenWhole c y p ∷ fs) s d w = absurd d
closed_placed x (ElseDue c y p ∷ fs) s d w =
    let k = closed_placed (T.IfElse c y x p) fs w.1.0 w.0 w.1.1 in
    record {
      placed = record {
        well = k.placed.well;
        clear = k.placed.clear;
        are = k.placed.are ∙ sym (append_assoc (frame_places fs) (stmt_places y) (stmt_places x));
      };
      due = k.due;
    }
closed_placed x (UnitDue c p ∷ fs) s d w =
    let k = closed_placed (T.OnUnit c x p) fs w.1.0 w.0 w.1.1 in
    record {
      placed = record {
        well = k.placed.well;
        clear = k.placed.clear;
        are = k.placed.are ∙ ap (λ l. l ++ stmt_places x) (sym (append-nil (frame_places fs)));
      };
      due = k.due;
    }

pub settled_placed : {ps : List Place} (fs : List Frame) → Placed ps fs → Settled ps (settled fs)
settled_placed [] h = record { placed = h; due = tt }
settled_placed (ThenWhole e u p ∷ fs) h =
    let k = closed_placed (T.If e u p) fs h.well.1.0 h.well.0 h.well.1.1 in
    record { placed = record { well = k.placed.well; clear = k.placed.clear; are = k.placed.are ∙ h.are }; due = k.due }
settled_placed (InList o labels items pending ∷ fs) h = record { placed = h; due = tt }
settled_placed (ThenDue e p ∷ fs) h = record { placed = h; due = tt }
settled_placed (ElseDue e u p ∷ fs) h = record { placed = h; due = tt }
settled_placed (UnitDue c p ∷ fs) h = record { placed = h; due = tt }
