-- The numbers of decimal digits.
use Rattle.std.proofs.Common.{◌≡◌, ◌<◌, ◌^◌, ℕ, true, List, [], ◌∷◌, length, None, refl, rules, arith, Result, Ok, Err}
use Rattle.std.specs.Char.{is_ascii_digit}
use Rattle.std.specs.List.{list_all}
use Rattle.std.specs.Str.Parse.{ParsesUnsigned, digits_value}
use Rattle.std.specs.Result.{OkIff, result_ok}
use Rattle.std.proofs.lemmas.Str.Parse.{IsNumeralModel, numerals_by_value, parse_digits}
use Rattle.std.proofs.lemmas.Bool.Decides.{nat_tests}
use Rattle.host.specs.program.Decimal.{decimal_number}

digits_model : IsNumeralModel (λ ds. list_all is_ascii_digit ds ≡ true) (digits_value 10)
digits_model = numerals_by_value _ (search rules)

-- no digit, or a number that is too large
none_named : (digits : List ℕ)
    → ¬ ((0 < length digits) × (digits_value 10 digits < 2 ^ 32)) → None ≡ decimal_number digits
none_named [] unfit = refl
none_named (d ∷ ds) unfit = grind (arith, nat_tests)

same_number : {E : Type 0} (digits : List ℕ) (r : Result ℕ E)
    → list_all is_ascii_digit digits ≡ true
    → OkIff r ((0 < length digits) × (digits_value 10 digits < 2 ^ 32)) (digits_value 10 digits)
    → result_ok r ≡ decimal_number digits
same_number digits (Ok number) all is = grind (arith, nat_tests)
same_number digits (Err fault) all unfit = none_named digits unfit

-- the result of `parse` on digits
pub parsed_digits : {E : Type 0} (digits : List ℕ) (r : Result ℕ E)
    → ParsesUnsigned 32 10 digits r → list_all is_ascii_digit digits ≡ true
    → result_ok r ≡ decimal_number digits
parsed_digits digits r parses all = same_number digits r all (parse_digits digits_model 32 digits r parses all)
