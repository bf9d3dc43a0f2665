-- What is hashed of a fact, and of its name.
use Rattle.std.specs.Prelude.{ℕ, ◌++◌, List}
use Rattle.std.specs.Hash as fed
use Rattle.sc_terms.specs.Inputs.{cube_input, row_input}
use Rattle.sc_facts.specs.declared.fact.Fact.{Fact}
use Rattle.sc_facts.specs.declared.fact.Fact.TheVariants.{Sign, Member, Eq, EqSet, Row, Empty}
use Rattle.sc_facts.specs.declared.name.FactName.{FactName}
use Rattle.sc_facts.specs.declared.name.FactName.TheVariants as names

abbrev pub fact_input : Fact → List (List ℕ)
fact_input (Sign f s) = fed.u8 0 ++ fed.u32 f ++ fed.bool s
fact_input (Member e s b) = fed.u8 1 ++ fed.u32 e ++ fed.u32 s ++ fed.bool b
fact_input (Eq e f b) = fed.u8 2 ++ fed.u32 e ++ fed.u32 f ++ fed.bool b
fact_input (EqSet s t b) = fed.u8 3 ++ fed.u32 s ++ fed.u32 t ++ fed.bool b
fact_input (Row row) = fed.u8 4 ++ row_input row
fact_input (Empty cube b) = fed.u8 5 ++ cube_input cube ++ fed.bool b

abbrev pub name_input : FactName → List (List ℕ)
name_input (names.Sign f) = fed.u8 0 ++ fed.u32 f
name_input (names.Member e s) = fed.u8 1 ++ fed.u32 e ++ fed.u32 s
name_input (names.Eq e f) = fed.u8 2 ++ fed.u32 e ++ fed.u32 f
name_input (names.EqSet s t) = fed.u8 3 ++ fed.u32 s ++ fed.u32 t
name_input (names.Empty cube) = fed.u8 5 ++ cube_input cube
