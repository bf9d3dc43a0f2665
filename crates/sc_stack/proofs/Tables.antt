-- The table of a stack, after a declaration.
use Rattle.std.proofs.Common.{◌≡◌, ℕ, ◌+◌, ◌<◌, Bool, true, false, cond, List, [], ◌∷◌, ◌++◌, length, Option, Some, None, refl, sym, ap, subst, ◌∙◌, arith}
use Rattle.std.specs.Prelude.{is_err, is_some, not, ◌||◌, nat_le, OnOk, Result, Ok, Err}
use Rattle.std.specs.List.{AllByRecursion}
use Rattle.std.specs.Option.{option_or}
use Rattle.std.specs.Map.{lookup}
use Rattle.std.specs.Str.{bytes_eq}
use Rattle.std.proofs.lemmas.Slice.Eq.{bytes_eq-Decides}
use Rattle.std.proofs.lemmas.Bool.{leb-false}
use Rattle.std.proofs.lemmas.List.{append-nil, length_push}
use Rattle.sc_text.specs.Names.{is_free_in_bars}
use Rattle.sc_text.specs.declared.code.Code.TheVariants.{E9, E16}
use Rattle.sc_base.specs.Options.{◌>>=◌}
use Rattle.sc_terms.specs.declared.nodes.Sort.{Sort}
use Rattle.sc_terms.specs.declared.nodes.Sort.TheVariants as sorts
use Rattle.sc_stack.specs.declared.stack.Constant.{Constant}
use Rattle.sc_stack.specs.declared.stack.Named.{Named}
use Rattle.sc_stack.specs.declared.stack.Named.TheVariants as named
use Rattle.sc_stack.specs.Names.{Names, look_up, first_of, sort_named, constant_named, fault_of, last_number, IsNumber, IsSort, SortIsFound, ConstantIsFound, IsNames}
use Rattle.sc_stack.specs.Tables.{names_of, IsIndexed}
use Rattle.sc_stack.proofs.Numbers.{item_at-push, item_at-last, all-push, all-weaken, number-push, number-last, or-assoc, or-none, first_of-append, first_of-same, lookup-push}

pub where_ok : {A E P : Type 0} (r : Result A E) → OnOk r P → is_err r ≡ false → P
where_ok (Ok x) h e = h
where_ok (Err x) h e = cc

-- a name that may be declared names nothing, and a number is left
pub no_fault : (names : Names) (name : List ℕ) (count : ℕ) → fault_of names name count ≡ None → (look_up names name ≡ None) × (count < last_number)
no_fault names name count e = by (is_free_in_bars name) (look_up names name) (nat_le last_number count) refl refl e
  where
    by : (f : Bool) (o : Option Named) (b : Bool) → o ≡ look_up names name → nat_le last_number count ≡ b → cond (not f || is_some o) (Some E9) (cond b (Some (E16 last_number)) None) ≡ None → (look_up names name ≡ None) × (count < last_number)
    by true None false o b e = (sym o, leb-false last_number count b)
    by _ _ _ o b e = cc

-- one more answer may come between two others where one of them is none
swap : {X : Type 0} (a n c : Option X) → (option_or a c ≡ None) → option_or (option_or a n) c ≡ option_or (option_or a c) n
swap None n None e = or-none n
swap _ _ _ e = cc

some_same : {X : Type 0} (x y : X) → Some x ≡ Some y → x ≡ y
some_same x y e = cc

all-both : {X : Type 0} (P Q R : X → Type 0) (xs : List X) → ((x : X) → P x → Q x → R x) → AllByRecursion P xs → AllByRecursion Q xs → AllByRecursion R xs
all-both P Q R [] f p q = _
all-both P Q R (x ∷ xs) f p q = (f x p.0 q.0, all-both P Q R xs f p.1 q.1)

-- ---- one more sort
sort-kept : (all : List (List ℕ)) (name own : List ℕ) (n : ℕ) → IsNumber all n → sort_named (all ++ name ∷ []) own n ≡ sort_named all own n
sort-kept all name own n h = ap (λ o. o >>= λ x. cond (bytes_eq own x) (Some (named.Sort n)) None) (item_at-push all name n h)

sort-new : (all : List (List ℕ)) (name own : List ℕ) → sort_named (all ++ name ∷ []) own (length all + 1) ≡ cond (bytes_eq own name) (Some (named.Sort (length all + 1))) None
sort-new all name own = ap (λ o. o >>= λ x. cond (bytes_eq own x) (Some (named.Sort (length all + 1))) None) (item_at-last all name)

IsSort-push : (s : List (List ℕ)) (name : List ℕ) (cs : List Constant) (ns ms fs ns' : List ℕ) (sort : Sort) → IsSort (names_of s cs ns ms fs) sort → IsSort (names_of (s ++ name ∷ []) cs ns' ms fs) sort
IsSort-push s name cs ns ms fs ns' (sorts.Named n) h = number-push s name n h
IsSort-push s name cs ns ms fs ns' (sorts.SetNamed n) h = number-push s name n h
IsSort-push s name cs ns ms fs ns' _ h = _

module _ {K : Type 0} (bytes : K → List ℕ) (old new : List (K × Named)) (key : K) (s : List (List ℕ)) (cs : List Constant) (ns ms fs : List ℕ) (name : List ℕ) where
  sorts_found : (own : List ℕ) → AllByRecursion (IsNumber s) (ns ++ []) → first_of (sort_named (s ++ name ∷ []) own) ((ns ++ (length s + 1) ∷ []) ++ []) ≡ option_or (first_of (sort_named s own) (ns ++ [])) (cond (bytes_eq own name) (Some (named.Sort (length s + 1))) None)
  sorts_found own all =
      let within : AllByRecursion (IsNumber s) ns = subst (AllByRecursion (IsNumber s)) (append-nil ns) all in
      ap (first_of (sort_named (s ++ name ∷ []) own)) (append-nil (ns ++ (length s + 1) ∷ []))
      ∙ first_of-append (sort_named (s ++ name ∷ []) own) ns ((length s + 1) ∷ [])
      ∙ rw (append-nil ns, first_of-same (IsNumber s) (sort_named (s ++ name ∷ []) own) (sort_named s own) ns (λ n h. sort-kept s name own n h) within, sort-new s name own, or-none (cond (bytes_eq own name) (Some (named.Sort (length s + 1))) None)) refl

  constants_found : (c : Constant) (own : List ℕ) → AllByRecursion (IsNumber cs) (ms ++ []) → first_of (constant_named (cs ++ c ∷ []) own) ((ms ++ (length cs + 1) ∷ []) ++ []) ≡ option_or (first_of (constant_named cs own) (ms ++ [])) (cond (bytes_eq own c.name) (Some (named.Constant (length cs + 1) c.sort)) None)
  constants_found c own all =
      let within : AllByRecursion (IsNumber cs) ms = subst (AllByRecursion (IsNumber cs)) (append-nil ms) all in
      let kept : (n : ℕ) → IsNumber cs n → constant_named (cs ++ c ∷ []) own n ≡ constant_named cs own n = λ n h. ap (λ o. o >>= λ (x : Constant). cond (bytes_eq own x.name) (Some (named.Constant n x.sort)) None) (item_at-push cs c n h) in
      let last : constant_named (cs ++ c ∷ []) own (length cs + 1) ≡ cond (bytes_eq own c.name) (Some (named.Constant (length cs + 1) c.sort)) None = ap (λ o. o >>= λ (x : Constant). cond (bytes_eq own x.name) (Some (named.Constant (length cs + 1) x.sort)) None) (item_at-last cs c) in
      ap (first_of (constant_named (cs ++ c ∷ []) own)) (append-nil (ms ++ (length cs + 1) ∷ []))
      ∙ first_of-append (constant_named (cs ++ c ∷ []) own) ms ((length cs + 1) ∷ [])
      ∙ rw (append-nil ms, first_of-same (IsNumber cs) (constant_named (cs ++ c ∷ []) own) (constant_named cs own) ms kept within, last, or-none (cond (bytes_eq own c.name) (Some (named.Constant (length cs + 1) c.sort)) None)) refl

  -- ---- what a name names, with one more sort
  sort_looked_up : IsNames (names_of s cs ns ms fs) → look_up (names_of s cs ns ms fs) name ≡ None → (x : List ℕ) → look_up (names_of (s ++ name ∷ []) cs (ns ++ (length s + 1) ∷ []) ms fs) x ≡ option_or (look_up (names_of s cs ns ms fs) x) (cond (bytes_eq x name) (Some (named.Sort (length s + 1))) None)
  sort_looked_up stands free x = ap (λ o. option_or o (first_of (constant_named cs x) (ms ++ []))) (sorts_found x stands.sorts) ∙ between (bytes_eq x name) refl
    where
      between : (b : Bool) → bytes_eq x name ≡ b → option_or (option_or (first_of (sort_named s x) (ns ++ [])) (cond b (Some (named.Sort (length s + 1))) None)) (first_of (constant_named cs x) (ms ++ [])) ≡ option_or (option_or (first_of (sort_named s x) (ns ++ [])) (first_of (constant_named cs x) (ms ++ []))) (cond b (Some (named.Sort (length s + 1))) None)
      between true is = swap (first_of (sort_named s x) (ns ++ [])) (Some (named.Sort (length s + 1))) (first_of (constant_named cs x) (ms ++ [])) (subst (λ y. look_up (names_of s cs ns ms fs) y ≡ None) (sym ((bytes_eq-Decides x name).0 is)) free)
      between false is = ap (λ o. option_or o (first_of (constant_named cs x) (ms ++ []))) (or-none (first_of (sort_named s x) (ns ++ []))) ∙ sym (or-none (option_or (first_of (sort_named s x) (ns ++ [])) (first_of (constant_named cs x) (ms ++ []))))

  -- and with one more constant
  constant_looked_up : (c : Constant) → IsNames (names_of s cs ns ms fs) → (x : List ℕ) → look_up (names_of s (cs ++ c ∷ []) ns (ms ++ (length cs + 1) ∷ []) fs) x ≡ option_or (look_up (names_of s cs ns ms fs) x) (cond (bytes_eq x c.name) (Some (named.Constant (length cs + 1) c.sort)) None)
  constant_looked_up c stands x =
      ap (option_or (first_of (sort_named s x) (ns ++ []))) (constants_found c x stands.constants)
      ∙ sym (or-assoc (first_of (sort_named s x) (ns ++ [])) (first_of (constant_named cs x) (ms ++ [])) (cond (bytes_eq x c.name) (Some (named.Constant (length cs + 1) c.sort)) None))

  pub sort_entered : bytes key ≡ name → new ≡ old ++ (key, named.Sort (length s + 1)) ∷ [] → fault_of (names_of s cs ns ms fs) name (length s) ≡ None → IsNames (names_of s cs ns ms fs) → IsIndexed bytes old (names_of s cs ns ms fs) → IsNames (names_of (s ++ name ∷ []) cs (ns ++ (length s + 1) ∷ []) ms fs) × IsIndexed bytes new (names_of (s ++ name ∷ []) cs (ns ++ (length s + 1) ∷ []) ms fs)
  sort_entered own made fault stands indexed =
      let after : Names = names_of (s ++ name ∷ []) cs (ns ++ (length s + 1) ∷ []) ms fs in
      let free = no_fault (names_of s cs ns ms fs) name (length s) fault in
      let more = length_push s name in
      let few = free.1 in
      let within : AllByRecursion (IsNumber s) ns = subst (AllByRecursion (IsNumber s)) (append-nil ns) stands.sorts in
      let kept : AllByRecursion (SortIsFound (names_of s cs ns ms fs)) ns = subst (AllByRecursion (SortIsFound (names_of s cs ns ms fs))) (append-nil ns) stands.sorts_found in
      let all : AllByRecursion (IsNumber (s ++ name ∷ [])) (ns ++ (length s + 1) ∷ []) = all-push (IsNumber (s ++ name ∷ [])) ns (length s + 1) (all-weaken (IsNumber s) (IsNumber (s ++ name ∷ [])) ns (λ n h. number-push s name n h) within) (number-last s name) in
      let found : AllByRecursion (SortIsFound after) (ns ++ (length s + 1) ∷ []) = all-push (SortIsFound after) ns (length s + 1) (all-both (IsNumber s) (SortIsFound (names_of s cs ns ms fs)) (SortIsFound after) ns old_sort within kept) last_sort in (
        record {
          levels = stands.levels;
          sorts = subst (AllByRecursion (IsNumber (s ++ name ∷ []))) (sym (append-nil (ns ++ (length s + 1) ∷ []))) all;
          constants = stands.constants;
          sorts_found = subst (AllByRecursion (SortIsFound after)) (sym (append-nil (ns ++ (length s + 1) ∷ []))) found;
          constants_found = all-weaken (ConstantIsFound (names_of s cs ns ms fs)) (ConstantIsFound after) (ms ++ []) (λ n h c at. sort_looked_up stands free.0 c.name ∙ ap (λ o. option_or o (cond (bytes_eq c.name name) (Some (named.Sort (length s + 1))) None)) (h c at)) stands.constants_found;
          sorts_declared = all-weaken (λ (c : Constant). IsSort (names_of s cs ns ms fs) c.sort) (λ (c : Constant). IsSort after c.sort) cs (λ c h. IsSort-push s name cs ns ms fs (ns ++ (length s + 1) ∷ []) c.sort h) stands.sorts_declared;
          last_sort = omega arith;
          last_constant = stands.last_constant;
        },
        record { finds = finds free.0 },
      )
    where
      old_sort : (n : ℕ) → IsNumber s n → SortIsFound (names_of s cs ns ms fs) n → SortIsFound (names_of (s ++ name ∷ []) cs (ns ++ (length s + 1) ∷ []) ms fs) n
      old_sort n h is x at =
          sort_looked_up stands (no_fault (names_of s cs ns ms fs) name (length s) fault).0 x
          ∙ ap (λ o. option_or o (cond (bytes_eq x name) (Some (named.Sort (length s + 1))) None)) (is x (sym (item_at-push s name n h) ∙ at))

      last_sort : SortIsFound (names_of (s ++ name ∷ []) cs (ns ++ (length s + 1) ∷ []) ms fs) (length s + 1)
      last_sort x at =
          let none = (no_fault (names_of s cs ns ms fs) name (length s) fault).0 in
          let same : name ≡ x = some_same name x (sym (item_at-last s name) ∙ at) in
          subst (λ y. look_up (names_of (s ++ name ∷ []) cs (ns ++ (length s + 1) ∷ []) ms fs) y ≡ Some (named.Sort (length s + 1))) same
          (sort_looked_up stands none name ∙ ap (λ o. option_or o (cond (bytes_eq name name) (Some (named.Sort (length s + 1))) None)) none ∙ ap (λ b. cond b (Some (named.Sort (length s + 1))) None) ((bytes_eq-Decides name name).1 refl))

      finds : look_up (names_of s cs ns ms fs) name ≡ None → (x : List ℕ) → lookup (λ k. bytes_eq x (bytes k)) new ≡ look_up (names_of (s ++ name ∷ []) cs (ns ++ (length s + 1) ∷ []) ms fs) x
      finds free x =
          ap (lookup (λ k. bytes_eq x (bytes k))) made
          ∙ lookup-push (λ k. bytes_eq x (bytes k)) old key (named.Sort (length s + 1))
          ∙ (rw (own, indexed.finds x) (sym (sort_looked_up stands free x)))

  pub constant_entered : (sort : Sort) → bytes key ≡ name → new ≡ old ++ (key, named.Constant (length cs + 1) sort) ∷ [] → fault_of (names_of s cs ns ms fs) name (length cs) ≡ None → IsSort (names_of s cs ns ms fs) sort → IsNames (names_of s cs ns ms fs) → IsIndexed bytes old (names_of s cs ns ms fs) → IsNames (names_of s (cs ++ record { name = name; sort = sort } ∷ []) ns (ms ++ (length cs + 1) ∷ []) fs) × IsIndexed bytes new (names_of s (cs ++ record { name = name; sort = sort } ∷ []) ns (ms ++ (length cs + 1) ∷ []) fs)
  constant_entered sort own made fault there stands indexed =
      let new_one : Constant = record { name = name; sort = sort } in
      let after : Names = names_of s (cs ++ new_one ∷ []) ns (ms ++ (length cs + 1) ∷ []) fs in
      let free = no_fault (names_of s cs ns ms fs) name (length cs) fault in
      let more = length_push cs new_one in
      let few = free.1 in
      let within : AllByRecursion (IsNumber cs) ms = subst (AllByRecursion (IsNumber cs)) (append-nil ms) stands.constants in
      let kept : AllByRecursion (ConstantIsFound (names_of s cs ns ms fs)) ms = subst (AllByRecursion (ConstantIsFound (names_of s cs ns ms fs))) (append-nil ms) stands.constants_found in
      let all : AllByRecursion (IsNumber (cs ++ new_one ∷ [])) (ms ++ (length cs + 1) ∷ []) = all-push (IsNumber (cs ++ new_one ∷ [])) ms (length cs + 1) (all-weaken (IsNumber cs) (IsNumber (cs ++ new_one ∷ [])) ms (λ n h. number-push cs new_one n h) within) (number-last cs new_one) in
      let found : AllByRecursion (ConstantIsFound after) (ms ++ (length cs + 1) ∷ []) = all-push (ConstantIsFound after) ms (length cs + 1) (all-both (IsNumber cs) (ConstantIsFound (names_of s cs ns ms fs)) (ConstantIsFound after) ms old_constant within kept) last_constant in (
        record {
          levels = stands.levels;
          sorts = stands.sorts;
          constants = subst (AllByRecursion (IsNumber (cs ++ new_one ∷ []))) (sym (append-nil (ms ++ (length cs + 1) ∷ []))) all;
          sorts_found = all-weaken (SortIsFound (names_of s cs ns ms fs)) (SortIsFound after) (ns ++ []) (λ n h x at. constant_looked_up new_one stands x ∙ ap (λ o. option_or o (cond (bytes_eq x name) (Some (named.Constant (length cs + 1) sort)) None)) (h x at)) stands.sorts_found;
          constants_found = subst (AllByRecursion (ConstantIsFound after)) (sym (append-nil (ms ++ (length cs + 1) ∷ []))) found;
          sorts_declared = all-push (λ (c : Constant). IsSort (names_of s cs ns ms fs) c.sort) cs new_one stands.sorts_declared there;
          last_sort = stands.last_sort;
          last_constant = omega arith;
        },
        record { finds = finds },
      )
    where
      old_constant : (n : ℕ) → IsNumber cs n → ConstantIsFound (names_of s cs ns ms fs) n → ConstantIsFound (names_of s (cs ++ record { name = name; sort = sort } ∷ []) ns (ms ++ (length cs + 1) ∷ []) fs) n
      old_constant n h is c at =
          constant_looked_up (record { name = name; sort = sort }) stands c.name
          ∙ ap (λ o. option_or o (cond (bytes_eq c.name name) (Some (named.Constant (length cs + 1) sort)) None)) (is c (sym (item_at-push cs (record { name = name; sort = sort }) n h) ∙ at))

      last_constant : ConstantIsFound (names_of s (cs ++ record { name = name; sort = sort } ∷ []) ns (ms ++ (length cs + 1) ∷ []) fs) (length cs + 1)
      last_constant c at =
          let none = (no_fault (names_of s cs ns ms fs) name (length cs) fault).0 in
          let own_one : Constant = record { name = name; sort = sort } in
          let same : own_one ≡ c = some_same own_one c (sym (item_at-last cs own_one) ∙ at) in
          subst (λ (d : Constant). look_up (names_of s (cs ++ record { name = name; sort = sort } ∷ []) ns (ms ++ (length cs + 1) ∷ []) fs) d.name ≡ Some (named.Constant (length cs + 1) d.sort)) same
          (constant_looked_up own_one stands name ∙ ap (λ o. option_or o (cond (bytes_eq name name) (Some (named.Constant (length cs + 1) sort)) None)) none ∙ ap (λ b. cond b (Some (named.Constant (length cs + 1) sort)) None) ((bytes_eq-Decides name name).1 refl))

      finds : (x : List ℕ) → lookup (λ k. bytes_eq x (bytes k)) new ≡ look_up (names_of s (cs ++ record { name = name; sort = sort } ∷ []) ns (ms ++ (length cs + 1) ∷ []) fs) x
      finds x =
          ap (lookup (λ k. bytes_eq x (bytes k))) made
          ∙ lookup-push (λ k. bytes_eq x (bytes k)) old key (named.Constant (length cs + 1) sort)
          ∙ (rw (own, indexed.finds x) (sym (constant_looked_up (record { name = name; sort = sort }) stands x)))
