-- The format list that data items go by.
use Rattle.pli_language.specs.Tree.{Formats}
use Rattle.pli_language.specs.View.{formats_of}
use Rattle.rv_item.specs.declared.fields.Fields.{Fields}

abbrev pub formats_in : Fields → Formats
formats_in f = formats_of f.formats.now
