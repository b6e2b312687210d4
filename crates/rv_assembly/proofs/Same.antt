-- Symbols and data that are one are equal as the program compares them.
use Rattle.std.proofs.Common.{◌≡◌, ℕ, Bool, true, false, ◌&&◌, ◌==◌, nat_eq, List, [], ◌∷◌, map, refl, ap, ◌∙◌}
use Rattle.std.specs.Cmp.Lexicographic.{pointwise}
use Rattle.pli_language.specs.Keywords.{same_bytes}
use Rattle.pli_coding.specs.Assembly.{same_initial, same_datum, same_symbol}
use Rattle.rv_assembly.specs.declared.item.InitialLeaf.{InitialLeaf}
use Rattle.rv_assembly.specs.declared.item.Datum.{Datum}
use Rattle.rv_assembly.specs.declared.item.Datum.TheVariants as H
use Rattle.rv_assembly.specs.declared.item.Symbol.{Symbol}
use Rattle.rv_assembly.specs.declared.item.Symbol.TheVariants as S
use Rattle.rv_assembly.specs.declared.statics.DatumRef.{DatumRef}
use Rattle.rv_assembly.specs.declared.statics.DatumRef.TheVariants as D
use Rattle.rv_assembly.specs.contracts.statics.DatumRefPartialEq.TheImpl as borrowed
use Rattle.rv_assembly.specs.contracts.item.InitialLeafPartialEq.TheImpl as leaf
use Rattle.rv_assembly.specs.contracts.item.DatumPartialEq.TheImpl as held
use Rattle.rv_assembly.specs.contracts.item.SymbolPartialEq.TheImpl as symbol
use Rattle.rv_assembly.specs.View.{leaf_of, datum_of, symbol_of}
use Rattle.rv_assembly.specs.Borrowed.{datum}

and_assoc : (a b c : Bool) → ((a && b) && c) ≡ (a && (b && c))
and_assoc true b c = refl
and_assoc false b c = refl

bytes_is : (xs ys : List ℕ) → pointwise nat_eq xs ys ≡ same_bytes xs ys
bytes_is [] [] = refl
bytes_is [] (y ∷ ys) = refl
bytes_is (x ∷ xs) [] = refl
bytes_is (x ∷ xs) (y ∷ ys) = ap (λ b. (x == y) && b) (bytes_is xs ys)

leaf_is : (a b : InitialLeaf) → leaf.ghosts.eq a b ≡ ((a.leaf == b.leaf) && same_bytes a.values.items b.values.items)
leaf_is a b = ap (λ t. (a.leaf == b.leaf) && t) (bytes_is a.values.items b.values.items)

leaves_is : (xs ys : List InitialLeaf) → pointwise leaf.ghosts.eq xs ys ≡ same_initial (map leaf_of xs) (map leaf_of ys)
leaves_is [] [] = refl
leaves_is [] (y ∷ ys) = refl
leaves_is (x ∷ xs) [] = refl
leaves_is (x ∷ xs) (y ∷ ys) =
    ap (λ t. t && pointwise leaf.ghosts.eq xs ys) (leaf_is x y)
    ∙ ap (λ t. ((x.leaf == y.leaf) && same_bytes x.values.items y.values.items) && t) (leaves_is xs ys)
    ∙ and_assoc (x.leaf == y.leaf) (same_bytes x.values.items y.values.items) (same_initial (map leaf_of xs) (map leaf_of ys))

pub same_is : (a b : DatumRef) → borrowed.ghosts.eq a b ≡ same_datum (datum a) (datum b)
same_is (D.ConstantBytes x) (D.ConstantBytes x2) = bytes_is x.now x2.now
same_is (D.ConstantBytes x) (D.InitialValues x2) = refl
same_is (D.ConstantBytes x) (D.NumberWord b2 i2) = refl
same_is (D.ConstantBytes x) (D.StaticStorage b2 i2 m2) = refl
same_is (D.InitialValues x) (D.ConstantBytes x2) = refl
same_is (D.InitialValues x) (D.InitialValues x2) = leaves_is x.now x2.now
same_is (D.InitialValues x) (D.NumberWord b2 i2) = refl
same_is (D.InitialValues x) (D.StaticStorage b2 i2 m2) = refl
same_is (D.NumberWord b i) (D.ConstantBytes x2) = refl
same_is (D.NumberWord b i) (D.InitialValues x2) = refl
same_is (D.NumberWord b i) (D.NumberWord b2 i2) = refl
same_is (D.NumberWord b i) (D.StaticStorage b2 i2 m2) = refl
same_is (D.StaticStorage b i m) (D.ConstantBytes x2) = refl
same_is (D.StaticStorage b i m) (D.InitialValues x2) = refl
same_is (D.StaticStorage b i m) (D.NumberWord b2 i2) = refl
same_is (D.StaticStorage b i m) (D.StaticStorage b2 i2 m2) = refl

same_held : (a b : Datum) → held.ghosts.eq a b ≡ same_datum (datum_of a) (datum_of b)
same_held (H.ConstantBytes x) (H.ConstantBytes x2) = bytes_is x.items x2.items
same_held (H.ConstantBytes x) (H.InitialValues x2) = refl
same_held (H.ConstantBytes x) (H.NumberWord b2 i2) = refl
same_held (H.ConstantBytes x) (H.StaticStorage b2 i2 m2) = refl
same_held (H.InitialValues x) (H.ConstantBytes x2) = refl
same_held (H.InitialValues x) (H.InitialValues x2) = leaves_is x.items x2.items
same_held (H.InitialValues x) (H.NumberWord b2 i2) = refl
same_held (H.InitialValues x) (H.StaticStorage b2 i2 m2) = refl
same_held (H.NumberWord b i) (H.ConstantBytes x2) = refl
same_held (H.NumberWord b i) (H.InitialValues x2) = refl
same_held (H.NumberWord b i) (H.NumberWord b2 i2) = refl
same_held (H.NumberWord b i) (H.StaticStorage b2 i2 m2) = refl
same_held (H.StaticStorage b i m) (H.ConstantBytes x2) = refl
same_held (H.StaticStorage b i m) (H.InitialValues x2) = refl
same_held (H.StaticStorage b i m) (H.NumberWord b2 i2) = refl
same_held (H.StaticStorage b i m) (H.StaticStorage b2 i2 m2) = refl

pub same_symbols : (a b : Symbol) → symbol.ghosts.eq a b ≡ same_symbol (symbol_of a) (symbol_of b)
same_symbols (S.ProcedureEntry b) (S.ProcedureEntry b2) = refl
same_symbols (S.ProcedureEntry b) (S.ReturnPlace b2) = refl
same_symbols (S.ProcedureEntry b) (S.LabelPlace b2 l2) = refl
same_symbols (S.ProcedureEntry b) S.RaiseCondition = refl
same_symbols (S.ProcedureEntry b) S.RaiseError = refl
same_symbols (S.ProcedureEntry b) S.ErrorEnd = refl
same_symbols (S.ProcedureEntry b) (S.ExtentRoutine b2 i2) = refl
same_symbols (S.ProcedureEntry b) (S.DataPlace d2) = refl
same_symbols (S.ReturnPlace b) (S.ProcedureEntry b2) = refl
same_symbols (S.ReturnPlace b) (S.ReturnPlace b2) = refl
same_symbols (S.ReturnPlace b) (S.LabelPlace b2 l2) = refl
same_symbols (S.ReturnPlace b) S.RaiseCondition = refl
same_symbols (S.ReturnPlace b) S.RaiseError = refl
same_symbols (S.ReturnPlace b) S.ErrorEnd = refl
same_symbols (S.ReturnPlace b) (S.ExtentRoutine b2 i2) = refl
same_symbols (S.ReturnPlace b) (S.DataPlace d2) = refl
same_symbols (S.LabelPlace b l) (S.ProcedureEntry b2) = refl
same_symbols (S.LabelPlace b l) (S.ReturnPlace b2) = refl
same_symbols (S.LabelPlace b l) (S.LabelPlace b2 l2) = ap (λ t. (b == b2) && t) (bytes_is l.items l2.items)
same_symbols (S.LabelPlace b l) S.RaiseCondition = refl
same_symbols (S.LabelPlace b l) S.RaiseError = refl
same_symbols (S.LabelPlace b l) S.ErrorEnd = refl
same_symbols (S.LabelPlace b l) (S.ExtentRoutine b2 i2) = refl
same_symbols (S.LabelPlace b l) (S.DataPlace d2) = refl
same_symbols S.RaiseCondition (S.ProcedureEntry b2) = refl
same_symbols S.RaiseCondition (S.ReturnPlace b2) = refl
same_symbols S.RaiseCondition (S.LabelPlace b2 l2) = refl
same_symbols S.RaiseCondition S.RaiseCondition = refl
same_symbols S.RaiseCondition S.RaiseError = refl
same_symbols S.RaiseCondition S.ErrorEnd = refl
same_symbols S.RaiseCondition (S.ExtentRoutine b2 i2) = refl
same_symbols S.RaiseCondition (S.DataPlace d2) = refl
same_symbols S.RaiseError (S.ProcedureEntry b2) = refl
same_symbols S.RaiseError (S.ReturnPlace b2) = refl
same_symbols S.RaiseError (S.LabelPlace b2 l2) = refl
same_symbols S.RaiseError S.RaiseCondition = refl
same_symbols S.RaiseError S.RaiseError = refl
same_symbols S.RaiseError S.ErrorEnd = refl
same_symbols S.RaiseError (S.ExtentRoutine b2 i2) = refl
same_symbols S.RaiseError (S.DataPlace d2) = refl
same_symbols S.ErrorEnd (S.ProcedureEntry b2) = refl
same_symbols S.ErrorEnd (S.ReturnPlace b2) = refl
same_symbols S.ErrorEnd (S.LabelPlace b2 l2) = refl
same_symbols S.ErrorEnd S.RaiseCondition = refl
same_symbols S.ErrorEnd S.RaiseError = refl
same_symbols S.ErrorEnd S.ErrorEnd = refl
same_symbols S.ErrorEnd (S.ExtentRoutine b2 i2) = refl
same_symbols S.ErrorEnd (S.DataPlace d2) = refl
same_symbols (S.ExtentRoutine b i) (S.ProcedureEntry b2) = refl
same_symbols (S.ExtentRoutine b i) (S.ReturnPlace b2) = refl
same_symbols (S.ExtentRoutine b i) (S.LabelPlace b2 l2) = refl
same_symbols (S.ExtentRoutine b i) S.RaiseCondition = refl
same_symbols (S.ExtentRoutine b i) S.RaiseError = refl
same_symbols (S.ExtentRoutine b i) S.ErrorEnd = refl
same_symbols (S.ExtentRoutine b i) (S.ExtentRoutine b2 i2) = refl
same_symbols (S.ExtentRoutine b i) (S.DataPlace d2) = refl
same_symbols (S.DataPlace d) (S.ProcedureEntry b2) = refl
same_symbols (S.DataPlace d) (S.ReturnPlace b2) = refl
same_symbols (S.DataPlace d) (S.LabelPlace b2 l2) = refl
same_symbols (S.DataPlace d) S.RaiseCondition = refl
same_symbols (S.DataPlace d) S.RaiseError = refl
same_symbols (S.DataPlace d) S.ErrorEnd = refl
same_symbols (S.DataPlace d) (S.ExtentRoutine b2 i2) = refl
same_symbols (S.DataPlace d) (S.DataPlace d2) = same_held d d2
