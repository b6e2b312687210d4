-- The words that a name can spell, in upper case. No word is reserved: each stays a name.
use Rattle.std.specs.Prelude.{ℕ, ◌-◌, List, [], ◌∷◌, Bool, true, false, ◌&&◌, ◌==◌, if◌then◌else◌, nat_le, map}
use lib.Chars.{codes}
use Rattle.pli_language.specs.declared.token.Word.{Word}
use Rattle.pli_language.specs.declared.token.Word.TheVariants as W

-- a spelling and its word
abbrev pub Entry : Type 0
Entry = List ℕ × Word

-- structure
abbrev pub structure_words : List Entry
structure_words =
    (codes "PROCEDURE", W.Procedure)
    ∷ (codes "PROC", W.Procedure)
    ∷ (codes "OPTIONS", W.Options)
    ∷ (codes "MAIN", W.Main)
    ∷ (codes "RECURSIVE", W.Recursive)
    ∷ (codes "RETURNS", W.Returns)
    ∷ (codes "END", W.End)
    ∷ (codes "IF", W.If)
    ∷ (codes "THEN", W.Then)
    ∷ (codes "ELSE", W.Else)
    ∷ (codes "ON", W.On)
    ∷ (codes "SYSTEM", W.System)
    ∷ (codes "DO", W.Do)
    ∷ (codes "WHILE", W.While)
    ∷ (codes "TO", W.To)
    ∷ (codes "BY", W.By)
    ∷ (codes "BEGIN", W.Begin)
    ∷ (codes "CALL", W.Call)
    ∷ (codes "RETURN", W.Return)
    ∷ []

-- statements
abbrev pub statements_words : List Entry
statements_words =
    (codes "GOTO", W.Goto)
    ∷ (codes "GO", W.Go)
    ∷ (codes "STOP", W.Stop)
    ∷ (codes "SIGNAL", W.Signal)
    ∷ (codes "REVERT", W.Revert)
    ∷ (codes "ALLOCATE", W.Allocate)
    ∷ (codes "ALLOC", W.Allocate)
    ∷ (codes "FREE", W.Free)
    ∷ (codes "IN", W.In)
    ∷ (codes "SET", W.Set)
    ∷ (codes "GET", W.Get)
    ∷ (codes "PUT", W.Put)
    ∷ (codes "FILE", W.File)
    ∷ (codes "EDIT", W.Edit)
    ∷ (codes "SYSIN", W.Sysin)
    ∷ (codes "SYSPRINT", W.Sysprint)
    ∷ (codes "SKIP", W.Skip)
    ∷ (codes "F", W.F)
    ∷ (codes "A", W.A)
    ∷ (codes "X", W.X)
    ∷ (codes "COLUMN", W.Column)
    ∷ (codes "COL", W.Column)
    ∷ []

-- conditions and declarations
abbrev pub declarations_words : List Entry
declarations_words =
    (codes "AREA", W.Area)
    ∷ (codes "FIXEDOVERFLOW", W.FixedOverflow)
    ∷ (codes "FOFL", W.FixedOverflow)
    ∷ (codes "ZERODIVIDE", W.ZeroDivide)
    ∷ (codes "ZDIV", W.ZeroDivide)
    ∷ (codes "ENDFILE", W.Endfile)
    ∷ (codes "ERROR", W.Error)
    ∷ (codes "REFER", W.Refer)
    ∷ (codes "DECLARE", W.Declare)
    ∷ (codes "DCL", W.Declare)
    ∷ (codes "FIXED", W.Fixed)
    ∷ (codes "BINARY", W.Binary)
    ∷ (codes "BIN", W.Binary)
    ∷ (codes "CHARACTER", W.Character)
    ∷ (codes "CHAR", W.Character)
    ∷ (codes "VARYING", W.Varying)
    ∷ (codes "VAR", W.Varying)
    ∷ (codes "BIT", W.Bit)
    ∷ []

-- attributes
abbrev pub attributes_words : List Entry
attributes_words =
    (codes "POINTER", W.Pointer)
    ∷ (codes "PTR", W.Ptr)
    ∷ (codes "OFFSET", W.Offset)
    ∷ (codes "AUTOMATIC", W.Automatic)
    ∷ (codes "AUTO", W.Automatic)
    ∷ (codes "STATIC", W.Static)
    ∷ (codes "CONTROLLED", W.Controlled)
    ∷ (codes "CTL", W.Controlled)
    ∷ (codes "BASED", W.Based)
    ∷ (codes "INITIAL", W.Initial)
    ∷ (codes "INIT", W.Initial)
    ∷ (codes "BUILTIN", W.Builtin)
    ∷ (codes "ALIGNED", W.Aligned)
    ∷ (codes "UNALIGNED", W.Unaligned)
    ∷ (codes "INTERNAL", W.Internal)
    ∷ (codes "NULL", W.Null)
    ∷ (codes "EMPTY", W.Empty)
    ∷ []

-- built-in functions
abbrev pub built_ins_words : List Entry
built_ins_words =
    (codes "ABS", W.Abs)
    ∷ (codes "SIGN", W.Sign)
    ∷ (codes "MAX", W.Max)
    ∷ (codes "MIN", W.Min)
    ∷ (codes "MOD", W.Mod)
    ∷ (codes "DIVIDE", W.Divide)
    ∷ (codes "LENGTH", W.Length)
    ∷ (codes "SUBSTR", W.Substr)
    ∷ (codes "INDEX", W.Index)
    ∷ (codes "VERIFY", W.Verify)
    ∷ (codes "LBOUND", W.Lbound)
    ∷ (codes "HBOUND", W.Hbound)
    ∷ (codes "DIM", W.Dim)
    ∷ (codes "ALLOCATION", W.Allocation)
    ∷ (codes "ADDR", W.Addr)
    ∷ (codes "ONCODE", W.Oncode)
    ∷ []

-- statements left out
abbrev pub statements_left_out_words : List Entry
statements_left_out_words =
    (codes "OPEN", W.Open)
    ∷ (codes "CLOSE", W.Close)
    ∷ (codes "READ", W.Read)
    ∷ (codes "WRITE", W.Write)
    ∷ (codes "REWRITE", W.Rewrite)
    ∷ (codes "DELETE", W.Delete)
    ∷ (codes "LOCATE", W.Locate)
    ∷ (codes "SELECT", W.Select)
    ∷ (codes "LEAVE", W.Leave)
    ∷ (codes "EXIT", W.Exit)
    ∷ (codes "FORMAT", W.Format)
    ∷ (codes "DEFAULT", W.Default)
    ∷ (codes "ENTRY", W.Entry)
    ∷ (codes "LIST", W.List)
    ∷ (codes "DATA", W.Data)
    ∷ []

-- attributes left out
abbrev pub attributes_left_out_words : List Entry
attributes_left_out_words =
    (codes "DECIMAL", W.Decimal)
    ∷ (codes "DEC", W.Decimal)
    ∷ (codes "FLOAT", W.Float)
    ∷ (codes "PICTURE", W.Picture)
    ∷ (codes "PIC", W.Picture)
    ∷ (codes "COMPLEX", W.Complex)
    ∷ (codes "LABEL", W.Label)
    ∷ (codes "EXTERNAL", W.External)
    ∷ (codes "EXT", W.External)
    ∷ (codes "LIKE", W.Like)
    ∷ (codes "DEFINED", W.Defined)
    ∷ (codes "DEF", W.Defined)
    ∷ (codes "UNION", W.Union)
    ∷ (codes "GENERIC", W.Generic)
    ∷ []

abbrev pub same_bytes : List ℕ → List ℕ → Bool
same_bytes [] [] = true
same_bytes [] (y ∷ ys) = false
same_bytes (x ∷ xs) [] = false
same_bytes (x ∷ xs) (y ∷ ys) = (x == y) && same_bytes xs ys

-- the word of a spelling in a list of entries, else another
abbrev pub looked_up : List Entry → List ℕ → Word → Word
looked_up [] w other = other
looked_up (e ∷ es) w other = if same_bytes w e.0 then e.1 else looked_up es w other

-- the word of a name in upper case
abbrev pub word_named : List ℕ → Word
word_named w =
    looked_up structure_words w
    (looked_up statements_words w
    (looked_up declarations_words w
    (looked_up attributes_words w
    (looked_up built_ins_words w
    (looked_up statements_left_out_words w
    (looked_up attributes_left_out_words w W.Other))))))

-- a byte in upper case, and a name
abbrev pub upper : ℕ → ℕ
upper b = if nat_le 97 b && nat_le b 122 then b - 32 else b

abbrev pub in_upper_case : List ℕ → List ℕ
in_upper_case w = map upper w
