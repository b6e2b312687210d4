-- The INITIAL values of leaves, by where they stand.
use Rattle.std.specs.Prelude.{List, [], ◌∷◌, Option, Some, None}
use Rattle.pli_language.specs.Tree.{InitialItem}
use Rattle.pli_typing.specs.Signatures.{Leaf}
use Rattle.pli_serving.specs.Finding.{Call}
use Rattle.pli_serving.specs.InitialValues.{Initial, items_from}
use Rattle.pli_serving.specs.Templates.{put_before}
use Rattle.pli_values.specs.declared.lists.ItemList.{ItemList}

abbrev pub list_for : Call → Option Leaf → ItemList → Option (List InitialItem)
list_for c None p = None
list_for c (Some l) p = items_from c l.kind p.count p.at

-- a list for each leaf; none where one isn't right, or the lists aren't as many as the leaves
abbrev pub lists_read : Call → List Leaf → List ItemList → Option Initial
lists_read c [] [] = Some []
lists_read c (l ∷ ls) (p ∷ ps) = put_before (items_from c l.kind p.count p.at) (lists_read c ls ps)
lists_read c _ _ = None
