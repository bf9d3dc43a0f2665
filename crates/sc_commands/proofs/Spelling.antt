-- The parts of each command.
use Rattle.std.proofs.Common.{◌≡◌, ℕ, Bool, true, List, Option, Some, None, Result, Ok, if◌then◌else◌, refl, ap, ◌∙◌}
use Rattle.std.specs.Prelude.{IsSome, ok_or, option_map, option_and_then, ◌&&◌}
use Rattle.sc_text.specs.declared.code.Code.{Code}
use Rattle.sc_text.specs.declared.code.Code.TheVariants as code
use Rattle.sc_commands.specs.Commands.{CommandShape, SetLogic, SetInfo, DeclareSort, DeclareConst, DeclareFun, Echo}
use Rattle.sc_commands.specs.Forms.{symbol, numeral, is_sort, are_sorts}
use Rattle.sc_commands.specs.Laws.{AreSpelt}

abbrev done : Option CommandShape → Result CommandShape Code
done o = ok_or o code.E5

named : (o : Option (List ℕ)) → IsSome o → done (option_map (λ n. SetLogic) o) ≡ Ok SetLogic
named None h = absurd cc
named (Some n) h = refl

with_sorts : (good sort : Bool) (o : Option (List ℕ)) (name : List ℕ) (f : List ℕ → CommandShape) → o ≡ Some name → good ≡ true → sort ≡ true → done (if good && sort then option_map f o else None) ≡ Ok (f name)
with_sorts good sort o name f h g s = rw (h, g, s) refl

pub are_spelt : AreSpelt
are_spelt = record {
  set_logic = λ line start at n h. named (symbol n) h;
  set_info = λ line start at k v h. ap (λ b. done (if b then Some SetInfo else None)) h;
  declare_sort = λ line start at n a name digits h g. ap (λ o. done (option_and_then (λ m. option_map (λ d. DeclareSort m d) (numeral a)) o)) h ∙ ap (λ o. done (option_map (λ d. DeclareSort name d) o)) g;
  declare_const = λ line start at n s name h g. with_sorts true (is_sort s) (symbol n) name (λ m. DeclareConst m s) h refl g;
  declare_fun = λ line start at n s name l arguments h g k. with_sorts (are_sorts arguments) (is_sort s) (symbol n) name (λ m. DeclareFun m _ s) h g k;
  assert = λ line start at t. refl;
  check_sat = λ line start at. refl;
  get_proof = λ line start at. refl;
  echo = λ line start at l text h. ap (λ o. done (option_map (λ t. Echo t) o)) h;
  exit = λ line start at. refl;
}
