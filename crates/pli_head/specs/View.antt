-- How the values of the code show heads.
use Rattle.std.specs.Prelude.{map}
use Rattle.pli_language.specs.Heads.{Head, ProcedureFront, Declaring, Simple, IfThen, Else, DoGroup, DoWhileGroup, DoCountGroup, BeginBlock, On, System, EndOf}
use Rattle.pli_language.specs.View.{name_of, expr_of, option_of, declare_item_of, procedure_option_of, counting_of, stmt_of}
use Rattle.pli_head.specs.declared.heads.Head.{Head as HeadHeld}
use Rattle.pli_head.specs.declared.heads.Head.TheVariants as H

abbrev pub head_of : HeadHeld → Head
head_of (H.ProcedureFront p ns options) =
    ProcedureFront p (map name_of ns.items) (map procedure_option_of options.items)
head_of (H.Declaring items p) = Declaring (map declare_item_of items.items) p
head_of (H.Simple x) = Simple (stmt_of x)
head_of (H.IfThen e p) = IfThen (expr_of e) p
head_of (H.Else p) = Else p
head_of (H.DoGroup p) = DoGroup p
head_of (H.DoWhileGroup e p) = DoWhileGroup (expr_of e) p
head_of (H.DoCountGroup c p) = DoCountGroup (counting_of c) p
head_of (H.BeginBlock p) = BeginBlock p
head_of (H.On c p) = On c p
head_of (H.System p) = System p
head_of (H.EndOf n p) = EndOf (option_of name_of n) p
