-- No extent that blocks declare is too heavy.
use Rattle.std.proofs.Common.{ℕ, Bool, false, List, [], ◌∷◌, map}
use Rattle.std.specs.List.{flat_map}
use Rattle.pli_language.specs.declared.expr.Place.{Place}
use Rattle.pli_language.specs.Heads as H
use Rattle.pli_language.specs.Tree as T
use Rattle.pli_language.specs.Declarations.{Variable, variables_of, dimensions_of, Held, Declaration, Block, blocks_of}
use Rattle.pli_typing.specs.Variables.{variables_in}
use Rattle.well_formed_trees.specs.Every.{Every}
use Rattle.well_formed_trees.specs.Spelled.{ItemsHave}
use Rattle.well_formed_trees.proofs.Lists.{every_both}
use Rattle.well_formed_trees.proofs.DeclaredEach.{HeldHas, DeclarationHas, BlockHas, all_blocks_have, variables_have}
use Rattle.small_frames.specs.Light.{LightBound, LightAttribute, LightName, LightItem, HasLight}

abbrev pub LightVariable : Variable → Type 0
LightVariable v = Every LightBound (dimensions_of v) × Every LightAttribute v.item.attributes

abbrev pub LightHeld : Held → Type 0
LightHeld h = HeldHas LightVariable h

abbrev pub IsLightDeclaration : Declaration → Type 0
IsLightDeclaration d = DeclarationHas LightVariable d

abbrev pub BlockLight : Block → Type 0
BlockLight b = BlockHas LightVariable b

names_light : (item : T.DeclareItem) (names : List T.DeclaredName) → Every LightName names
    → Every LightBound item.dimensions → Every LightAttribute item.attributes
    → Every LightVariable (map (λ d. record { declared = d; item = item }) names)
names_light item [] h k l = tt
names_light item (d ∷ ds) h k l =
    ((every_both LightBound d.dimensions item.dimensions h.0 k, l), names_light item ds h.1 k l)

items_light : (items : List T.DeclareItem) → Every LightItem items
    → Every LightVariable (flat_map variables_of items)
items_light [] h = tt
items_light (i ∷ is) h =
    every_both LightVariable (variables_of i) (flat_map variables_of is)
    (names_light i i.names h.0.0.0 h.0.0.1 h.0.1) (items_light is h.1)

head_light : (b u : ℕ) (r : Bool) (items : List T.DeclareItem) (place : Place)
    → HasLight b u r (H.Declaring items place) → Every LightVariable (flat_map variables_of items)
head_light b u r items place h = items_light items h

pub all_blocks_light : (tree : T.Tree) → ItemsHave HasLight 0 0 false tree.procedures
    → Every BlockLight (blocks_of tree)
all_blocks_light tree h = all_blocks_have LightVariable HasLight head_light tree h

pub variables_light : (ds : List Declaration) → Every IsLightDeclaration ds
    → Every (Every LightHeld) (variables_in ds)
variables_light ds h = variables_have LightVariable ds h
