-- What is found for extents and sizes.
use Rattle.std.proofs.Common.{◌≡◌, ◌+◌, Bool, true, false, List, ◌∷◌, Some, None, refl, ap}
use Rattle.std.specs.Prelude.{if◌then◌else◌, unwrap_or}
use Rattle.std.proofs.lemmas.List.{drop_all}
use Rattle.pli_declare.proofs.Chains.{drop_here}
use Rattle.pli_language.specs.Tree.{Attribute, Fixed, Binary, Character, Varying, BitOne, Pointer, Offset, Area, Automatic, Static, Controlled, Based, Initial, Builtin, Aligned, Unaligned, Internal, StarSize, Given}
use Rattle.pli_typing.specs.Variables.{WrittenExtent, index_where, size_of_text, size_of_area, area_name}
use Rattle.pli_variables.specs.Written.{text_size, area_size, offset_in}

pub index_here : {X : Type 0} (test : X → Bool) (x : X) (xs : List X) → test x ≡ true → index_where test (x ∷ xs) ≡ 0
index_here test x xs e = ap (λ (t : Bool). if t then 0 else index_where test xs + 1) e

pub index_on : {X : Type 0} (test : X → Bool) (x : X) (xs : List X) → test x ≡ false → index_where test (x ∷ xs) ≡ index_where test xs + 1
index_on test x xs e = ap (λ (t : Bool). if t then 0 else index_where test xs + 1) e

pub ruleset found = (drop_here, drop_all, index_here, index_on)

pub text_on : (written : List WrittenExtent) (a : Attribute) (all : List Attribute) → size_of_text written (a ∷ all) ≡ unwrap_or (text_size written a) (size_of_text written all)
text_on written (Character None) all = refl
text_on written (Character (Some (StarSize p))) all = refl
text_on written (Character (Some (Given e))) all = refl
text_on written (Area s) all = refl
text_on written (Fixed p) all = refl
text_on written (Binary p) all = refl
text_on written Varying all = refl
text_on written BitOne all = refl
text_on written Pointer all = refl
text_on written (Offset a) all = refl
text_on written Automatic all = refl
text_on written Static all = refl
text_on written Controlled all = refl
text_on written (Based l) all = refl
text_on written (Initial is) all = refl
text_on written Builtin all = refl
text_on written Aligned all = refl
text_on written Unaligned all = refl
text_on written Internal all = refl

pub area_on : (written : List WrittenExtent) (a : Attribute) (all : List Attribute) → size_of_area written (a ∷ all) ≡ unwrap_or (area_size written a) (size_of_area written all)
area_on written (Area None) all = refl
area_on written (Area (Some (StarSize p))) all = refl
area_on written (Area (Some (Given e))) all = refl
area_on written (Character s) all = refl
area_on written (Fixed p) all = refl
area_on written (Binary p) all = refl
area_on written Varying all = refl
area_on written BitOne all = refl
area_on written Pointer all = refl
area_on written (Offset a) all = refl
area_on written Automatic all = refl
area_on written Static all = refl
area_on written Controlled all = refl
area_on written (Based l) all = refl
area_on written (Initial is) all = refl
area_on written Builtin all = refl
area_on written Aligned all = refl
area_on written Unaligned all = refl
area_on written Internal all = refl

pub ruleset sizes = (drop_here, drop_all, text_on, area_on)

pub name_on : (a : Attribute) (all : List Attribute) → area_name (a ∷ all) ≡ unwrap_or (offset_in a) (area_name all)
name_on (Character s) all = refl
name_on (Area s) all = refl
name_on (Fixed p) all = refl
name_on (Binary p) all = refl
name_on Varying all = refl
name_on BitOne all = refl
name_on Pointer all = refl
name_on (Offset a) all = refl
name_on Automatic all = refl
name_on Static all = refl
name_on Controlled all = refl
name_on (Based l) all = refl
name_on (Initial is) all = refl
name_on Builtin all = refl
name_on Aligned all = refl
name_on Unaligned all = refl
name_on Internal all = refl

pub ruleset names = (drop_here, drop_all, name_on)
