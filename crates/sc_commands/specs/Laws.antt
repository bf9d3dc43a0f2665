-- What the codes of a top item say of its head, and what names are.
use Rattle.std.specs.Prelude.{◌≡◌, ◌↔◌, ⊤, ℕ, Bool, true, false, ◌||◌, List, [], ◌∷◌, ◌++◌, codes, Some, None, IsSome, Ok, Err}
use Rattle.sc_text.specs.declared.token.Kind.{Kind}
use Rattle.sc_text.specs.declared.token.Kind.TheVariants as kind
use Rattle.sc_text.specs.declared.code.Code.{Code}
use Rattle.sc_text.specs.declared.code.Code.TheVariants as code
use Rattle.sc_text.specs.Names.{is_among, is_command, is_left_out_command, is_reserved}
use Rattle.sc_sexpr.specs.Shapes.{Shape, Single, Listed, Shapes, Empty, More}
use Rattle.sc_commands.specs.Commands.{CommandShape, SetLogic, SetInfo, DeclareSort, DeclareConst, DeclareFun, Assert, CheckSat, GetProof, Echo, Exit}
use Rattle.sc_commands.specs.Forms.{symbol, numeral, literal, is_keyword, is_sort, are_sorts, command_of}

-- the name of a command
abbrev pub name_of : CommandShape → List ℕ
name_of SetLogic = codes "set-logic"
name_of SetInfo = codes "set-info"
name_of (DeclareSort name arity) = codes "declare-sort"
name_of (DeclareConst name sort) = codes "declare-const"
name_of (DeclareFun name arguments range) = codes "declare-fun"
name_of (Assert term) = codes "assert"
name_of CheckSat = codes "check-sat"
name_of GetProof = codes "get-proof"
name_of (Echo text) = codes "echo"
name_of Exit = codes "exit"

-- the commands that are done
abbrev pub done : List (List ℕ)
done = codes "set-logic" ∷ codes "set-info" ∷ codes "declare-sort" ∷ codes "declare-const" ∷ codes "declare-fun" ∷ codes "assert" ∷ codes "check-sat" ∷ codes "get-proof" ∷ codes "echo" ∷ codes "exit" ∷ []

-- a command's name of SMT-LIB 2.6
abbrev pub is_name : List ℕ → Bool
is_name word = is_command word || is_left_out_command word

-- a list with a head
abbrev pub HasHead : Shape → Type 0
HasHead (Listed line (More head rest)) = ⊤
HasHead s = ⊥

-- a list whose head is this bare word
abbrev pub BeginsWith : Shape → List ℕ → Type 0
BeginsWith (Listed line (More (Single kind.Word text start place) rest)) word = text ≡ word
BeginsWith s word = ⊥

-- the three codes that a top item can get
abbrev pub is_shape_code : Code → Bool
is_shape_code code.E4 = true
is_shape_code code.E5 = true
is_shape_code code.E8 = true
is_shape_code c = false

pub record AreByHead : Type 0 where
  -- E4 comes exactly where the head is a bare word that names no command, or is no bare word.
  pub unknown : (s : Shape) → (command_of s ≡ Err code.E4) ↔ (HasHead s × ((word : List ℕ) → BeginsWith s word → is_name word ≡ false))
  -- E8 comes exactly where the head names a command that is not done, whatever the parts.
  pub outside : (s : Shape) → (command_of s ≡ Err code.E8) ↔ ((word : List ℕ) × BeginsWith s word × (is_name word ≡ true) × (is_among word done ≡ false))
  -- No other code comes but E5.
  pub codes_are : (s : Shape) (c : Code) → command_of s ≡ Err c → is_shape_code c ≡ true
  -- A command is read from a list that begins with its name.
  pub names : (s : Shape) (c : CommandShape) → command_of s ≡ Ok c → BeginsWith s (name_of c)

-- A symbol is its name, or its name between bars; a reserved word is a symbol only between bars.
pub record AreNames : Type 0 where
  pub bare : (name : List ℕ) (start line : ℕ) → is_reserved name ≡ false → symbol (Single kind.Word name start line) ≡ Some name
  pub reserved : (name : List ℕ) (start line : ℕ) → is_reserved name ≡ true → symbol (Single kind.Word name start line) ≡ None
  pub quoted : (name : List ℕ) (start line : ℕ) → symbol (Single kind.Quoted (124 ∷ name ++ 124 ∷ []) start line) ≡ Some name

-- the list of a bare word and these parts, with its line and the word's place and line
abbrev pub item : ℕ → ℕ → ℕ → List ℕ → Shapes → Shape
item line start at word parts = Listed line (More (Single kind.Word word start at) parts)

-- Each command that is done has the parts that SMT-LIB 2.6 gives it.
pub record AreSpelt : Type 0 where
  pub set_logic : (line start at : ℕ) (n : Shape) → IsSome (symbol n) → command_of (item line start at (codes "set-logic") (More n Empty)) ≡ Ok SetLogic
  pub set_info : (line start at : ℕ) (k v : Shape) → is_keyword k ≡ true → command_of (item line start at (codes "set-info") (More k (More v Empty))) ≡ Ok SetInfo
  pub declare_sort : (line start at : ℕ) (n a : Shape) (name digits : List ℕ) → symbol n ≡ Some name → numeral a ≡ Some digits → command_of (item line start at (codes "declare-sort") (More n (More a Empty))) ≡ Ok (DeclareSort name digits)
  pub declare_const : (line start at : ℕ) (n s : Shape) (name : List ℕ) → symbol n ≡ Some name → is_sort s ≡ true → command_of (item line start at (codes "declare-const") (More n (More s Empty))) ≡ Ok (DeclareConst name s)
  pub declare_fun : (line start at : ℕ) (n s : Shape) (name : List ℕ) (l : ℕ) (arguments : Shapes) → symbol n ≡ Some name → are_sorts arguments ≡ true → is_sort s ≡ true → command_of (item line start at (codes "declare-fun") (More n (More (Listed l arguments) (More s Empty)))) ≡ Ok (DeclareFun name (Listed l arguments) s)
  pub assert : (line start at : ℕ) (t : Shape) → command_of (item line start at (codes "assert") (More t Empty)) ≡ Ok (Assert t)
  pub check_sat : (line start at : ℕ) → command_of (item line start at (codes "check-sat") Empty) ≡ Ok CheckSat
  pub get_proof : (line start at : ℕ) → command_of (item line start at (codes "get-proof") Empty) ≡ Ok GetProof
  pub echo : (line start at : ℕ) (l : Shape) (text : List ℕ) → literal l ≡ Some text → command_of (item line start at (codes "echo") (More l Empty)) ≡ Ok (Echo text)
  pub exit : (line start at : ℕ) → command_of (item line start at (codes "exit") Empty) ≡ Ok Exit

-- a simple symbol, which is its name and no reserved word, or a quoted one, whose name stands between its bars
abbrev pub IsSymbol : List ℕ → Shape → Type 0
IsSymbol name (Single kind.Word text start line) = (name ≡ text) × (is_reserved text ≡ false)
IsSymbol name (Single kind.Quoted text start line) = (inner : List ℕ) → text ≡ 124 ∷ inner ++ 124 ∷ [] → name ≡ inner
IsSymbol name s = ⊥

-- a token of this kind, as written
abbrev pub IsToken : Kind → List ℕ → Shape → Type 0
IsToken k written (Single other text start line) = (k ≡ other) × (written ≡ text)
IsToken k written (Listed line rest) = ⊥

-- a symbol or a list
abbrev pub MayBeSort : Shape → Type 0
MayBeSort (Listed line rest) = ⊤
MayBeSort (Single k text start line) = (name : List ℕ) × IsSymbol name (Single k text start line)

abbrev pub MayBeSorts : Shapes → Type 0
MayBeSorts Empty = ⊤
MayBeSorts (More s rest) = MayBeSort s × MayBeSorts rest

-- a list of what may be sorts
abbrev pub MayBeSortList : Shape → Type 0
MayBeSortList (Listed line rest) = MayBeSorts rest
MayBeSortList (Single k text start line) = ⊥

-- the words of the grammar of commands in SMT-LIB 2.6, some with what the command keeps of them
pub data Part : Type 0 where
  AnySymbol : Part
  Symbol : List ℕ → Part
  Numeral : List ℕ → Part
  Literal : List ℕ → Part
  AnyKeyword : Part
  AnyValue : Part
  Sort : Shape → Part
  SortList : Shape → Part
  Term : Shape → Part

abbrev pub IsPart : Part → Shape → Type 0
IsPart AnySymbol s = (name : List ℕ) × IsSymbol name s
IsPart (Symbol name) s = IsSymbol name s
IsPart (Numeral digits) s = IsToken kind.Numeral digits s
IsPart (Literal text) s = IsToken kind.Literal text s
IsPart AnyKeyword s = (text : List ℕ) × IsToken kind.Keyword text s
IsPart AnyValue s = ⊤
IsPart (Sort sort) s = (sort ≡ s) × MayBeSort s
IsPart (SortList sorts) s = (sorts ≡ s) × MayBeSortList s
IsPart (Term term) s = term ≡ s

-- each part in turn, and nothing behind them
abbrev pub AreParts : List Part → Shapes → Type 0
AreParts [] Empty = ⊤
AreParts (p ∷ ps) (More s rest) = IsPart p s × AreParts ps rest
AreParts ps rest = ⊥

-- the grammar of the commands that are done: what stands behind the name of each
abbrev pub parts_of : CommandShape → List Part
parts_of SetLogic = AnySymbol ∷ []
parts_of SetInfo = AnyKeyword ∷ AnyValue ∷ []
parts_of (DeclareSort name arity) = Symbol name ∷ Numeral arity ∷ []
parts_of (DeclareConst name sort) = Symbol name ∷ Sort sort ∷ []
parts_of (DeclareFun name arguments range) = Symbol name ∷ SortList arguments ∷ Sort range ∷ []
parts_of (Assert term) = Term term ∷ []
parts_of CheckSat = []
parts_of GetProof = []
parts_of (Echo text) = Literal text ∷ []
parts_of Exit = []

-- the list of the command's name, a bare word, and of its parts
abbrev pub IsSpeltAs : CommandShape → Shape → Type 0
IsSpeltAs c (Listed line (More (Single kind.Word text start at) parts)) = (text ≡ name_of c) × AreParts (parts_of c) parts
IsSpeltAs c s = ⊥

-- Nothing else is read as a command: what is read as one is spelt as this command.
abbrev pub HaveNoOtherParts : Type 0
HaveNoOtherParts = (s : Shape) (c : CommandShape) → command_of s ≡ Ok c → IsSpeltAs c s
