-- Extents and values of INITIAL that blocks declare are in range.
use Rattle.std.proofs.Common.{ℕ, Bool, false, List, [], ◌∷◌, map}
use Rattle.std.specs.List.{flat_map}
use Rattle.pli_language.specs.declared.expr.Place.{Place}
use Rattle.pli_language.specs.Heads as H
use Rattle.pli_language.specs.Tree as T
use Rattle.pli_language.specs.Declarations.{Variable, variables_of, dimensions_of, Held, Declaration, Block, blocks_of}
use Rattle.pli_typing.specs.Variables.{variables_in}
use Rattle.well_formed_trees.specs.Every.{Every}
use Rattle.well_formed_trees.specs.Spelled.{RangedBound, RangedAttribute, RangedName, RangedItem, IsRanged, ItemsHave}
use Rattle.well_formed_trees.proofs.Lists.{every_both}
use Rattle.well_formed_trees.proofs.DeclaredEach.{HeldHas, DeclarationHas, BlockHas, all_blocks_have, variables_have}

abbrev pub RangedVariable : Variable → Type 0
RangedVariable v = Every RangedBound (dimensions_of v) × Every RangedAttribute v.item.attributes

abbrev pub RangedHeld : Held → Type 0
RangedHeld h = HeldHas RangedVariable h

abbrev pub IsRangedDeclaration : Declaration → Type 0
IsRangedDeclaration d = DeclarationHas RangedVariable d

abbrev pub BlockRanged : Block → Type 0
BlockRanged b = BlockHas RangedVariable b

names_ranged : (item : T.DeclareItem) (names : List T.DeclaredName) → Every RangedName names
    → Every RangedBound item.dimensions → Every RangedAttribute item.attributes
    → Every RangedVariable (map (λ d. record { declared = d; item = item }) names)
names_ranged item [] h k l = tt
names_ranged item (d ∷ ds) h k l =
    ((every_both RangedBound d.dimensions item.dimensions h.0 k, l), names_ranged item ds h.1 k l)

items_ranged : (items : List T.DeclareItem) → Every RangedItem items
    → Every RangedVariable (flat_map variables_of items)
items_ranged [] h = tt
items_ranged (i ∷ is) h =
    every_both RangedVariable (variables_of i) (flat_map variables_of is)
    (names_ranged i i.names h.0.0.0 h.0.0.1 h.0.1) (items_ranged is h.1)

head_ranged : (b u : ℕ) (r : Bool) (items : List T.DeclareItem) (place : Place)
    → IsRanged b u r (H.Declaring items place) → Every RangedVariable (flat_map variables_of items)
head_ranged b u r items place h = items_ranged items h

pub all_blocks_ranged : (tree : T.Tree) → ItemsHave IsRanged 0 0 false tree.procedures
    → Every BlockRanged (blocks_of tree)
all_blocks_ranged tree h = all_blocks_have RangedVariable IsRanged head_ranged tree h

pub variables_ranged : (ds : List Declaration) → Every IsRangedDeclaration ds
    → Every (Every RangedHeld) (variables_in ds)
variables_ranged ds h = variables_have RangedVariable ds h
