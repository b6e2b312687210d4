-- Small programs and what their declarations break, computed on the definition.
use Rattle.std.proofs.Common.{◌≡◌, ℕ, List, [], ◌∷◌, Option, Some, None, refl}
use Rattle.pli_language.specs.declared.expr.Place.{Place}
use Rattle.pli_language.specs.declared.token.Word.TheVariants as W
use Rattle.pli_language.specs.declared.fault.SourceKind.TheVariants as K
use Rattle.pli_language.specs.Tree.{Name, Number, Refers, Plain, Last, Absent, Extent, Upper, StarSize, Given, Attribute, Fixed, Binary, Character, Pointer, Area, Static, Based, DeclaredName, DeclareItem, Main, Procedure, Declare, NoItem, ItemThen, Tree}
use Rattle.pli_language.specs.Refusals.{fault, is_before}
use Rattle.pli_language.specs.Declarations.{held, chain_after, declared_in, declared_in_item, declared_in_stmt, blocks_in, blocks_in_item, blocks_in_stmt, blocks_of}
use Rattle.pli_language.specs.Declaring.{declaring_faults}

abbrev at : ℕ → Place
at column = record { line = 1; column = column }

abbrev named : List ℕ → ℕ → Name
named letters column = record { letters = letters; word = W.Other; place = at column }

abbrev plain : Name → DeclaredName
plain name = record { name = name; dimensions = [] }

abbrev exactly : ℕ → ℕ → Extent
exactly n column = record { value = Number n (at column); refer = None }

abbrev item : Option ℕ → DeclaredName → List Attribute → DeclareItem
item level name attributes = record { level = level; names = name ∷ []; dimensions = []; attributes = attributes }

-- T: PROC OPTIONS(MAIN); with these declarations
abbrev program : List DeclareItem → Tree
program items = record {
  procedures = ItemThen (Procedure (record { labels = named (84 ∷ []) 1 ∷ []; place = at 4; parameters = []; options = Main ∷ [] }) (ItemThen (Declare items (at 24)) NoItem)) NoItem;
}

-- a program without a procedure has no main one
no_procedure : declaring_faults (record { procedures = NoItem }) ≡ fault (at 1) K.NoMain ∷ []
unfolding blocks_of declared_in blocks_in
no_procedure = refl

-- DCL 1 S, 2 A AREA(64);
area_as_member : declaring_faults (program (item (Some 1) (plain (named (83 ∷ []) 30)) [] ∷ item (Some 2) (plain (named (65 ∷ []) 35)) (Area (Some (Given (exactly 64 42))) ∷ []) ∷ [])) ≡ fault (at 35) K.NestedArea ∷ []
unfolding blocks_of declared_in declared_in_item declared_in_stmt blocks_in blocks_in_item blocks_in_stmt held chain_after is_before
area_as_member = refl

-- DCL A AREA(64);
area_alone : declaring_faults (program (item None (plain (named (65 ∷ []) 28)) (Area (Some (Given (exactly 64 35))) ∷ []) ∷ [])) ≡ []
unfolding blocks_of declared_in declared_in_item declared_in_stmt blocks_in blocks_in_item blocks_in_stmt held chain_after is_before
area_alone = refl

-- DCL A(n) FIXED BIN(31) STATIC;
abbrev static_array : ℕ → Tree
static_array n = program (item None (record { name = named (65 ∷ []) 28; dimensions = Upper (exactly n 30) ∷ [] }) (Fixed None ∷ Binary (Some 31) ∷ Static ∷ []) ∷ [])

static_just_fits : declaring_faults (static_array 262140) ≡ []
unfolding blocks_of declared_in declared_in_item declared_in_stmt blocks_in blocks_in_item blocks_in_stmt held chain_after is_before
static_just_fits = refl

static_too_large : declaring_faults (static_array 262141) ≡ fault (at 28) K.TooLarge ∷ []
unfolding blocks_of declared_in declared_in_item declared_in_stmt blocks_in blocks_in_item blocks_in_stmt held chain_after is_before
static_too_large = refl

-- DCL 1 S BASED, 2 N FIXED BIN(31), 2 A(K REFER(m)) FIXED BIN(31);
abbrev kept_extent : ℕ → Tree
kept_extent member =
    program (item (Some 1) (plain (named (83 ∷ []) 30)) (Based None ∷ [])
    ∷ item (Some 2) (plain (named (78 ∷ []) 41)) (Fixed None ∷ Binary (Some 31) ∷ [])
    ∷ item (Some 2) (record { name = named (65 ∷ []) 60; dimensions = Upper (record { value = Refers (Plain (Last (named (75 ∷ []) 62) Absent)); refer = Some (record { member = named (member ∷ []) 70; place = at 64 }) }) ∷ [] }) (Fixed None ∷ Binary (Some 31) ∷ []) ∷ [])

refer_to_member : declaring_faults (kept_extent 78) ≡ []
unfolding blocks_of declared_in declared_in_item declared_in_stmt blocks_in blocks_in_item blocks_in_stmt held chain_after is_before
refer_to_member = refl

refer_to_nothing : declaring_faults (kept_extent 77) ≡ fault (at 64) K.BadRefer ∷ []
unfolding blocks_of declared_in declared_in_item declared_in_stmt blocks_in blocks_in_item blocks_in_stmt held chain_after is_before
refer_to_nothing = refl

-- DCL I PTR, I PTR;
same_name : declaring_faults (program (item None (plain (named (73 ∷ []) 28)) (Pointer ∷ []) ∷ item None (plain (named (73 ∷ []) 35)) (Pointer ∷ []) ∷ [])) ≡ fault (at 35) K.DeclaredTwice ∷ []
unfolding blocks_of declared_in declared_in_item declared_in_stmt blocks_in blocks_in_item blocks_in_stmt held chain_after is_before
same_name = refl

-- DCL X; and DCL X CHAR(*);
no_kind : declaring_faults (program (item None (plain (named (88 ∷ []) 28)) [] ∷ [])) ≡ fault (at 28) K.BadAttributes ∷ []
unfolding blocks_of declared_in declared_in_item declared_in_stmt blocks_in blocks_in_item blocks_in_stmt held chain_after is_before
no_kind = refl

star_length : declaring_faults (program (item None (plain (named (88 ∷ []) 28)) (Character (Some (StarSize (at 35))) ∷ []) ∷ [])) ≡ fault (at 35) K.BadExtent ∷ []
unfolding blocks_of declared_in declared_in_item declared_in_stmt blocks_in blocks_in_item blocks_in_stmt held chain_after is_before
star_length = refl
