-- The digits of a number, by its millions and what is left below a million.
use Rattle.std.proofs.Common.{◌≡◌, ℕ, ◌/◌, ◌%◌, arith}

pub front_6 : (n : ℕ) → n / 1000000 % 10000000 / 1000000 % 10 ≡ n / 1000000000000 % 10
front_6 n = omega arith

pub front_5 : (n : ℕ) → n / 1000000 % 10000000 / 100000 % 10 ≡ n / 100000000000 % 10
front_5 n = omega arith

pub front_4 : (n : ℕ) → n / 1000000 % 10000000 / 10000 % 10 ≡ n / 10000000000 % 10
front_4 n = omega arith

pub front_3 : (n : ℕ) → n / 1000000 % 10000000 / 1000 % 10 ≡ n / 1000000000 % 10
front_3 n = omega arith

pub front_2 : (n : ℕ) → n / 1000000 % 10000000 / 100 % 10 ≡ n / 100000000 % 10
front_2 n = omega arith

pub front_1 : (n : ℕ) → n / 1000000 % 10000000 / 10 % 10 ≡ n / 10000000 % 10
front_1 n = omega arith

pub front_0 : (n : ℕ) → n / 1000000 % 10000000 / 1 % 10 ≡ n / 1000000 % 10
front_0 n = omega arith

pub back_5 : (n : ℕ) → n % 1000000 / 100000 % 10 ≡ n / 100000 % 10
back_5 n = omega arith

pub back_4 : (n : ℕ) → n % 1000000 / 10000 % 10 ≡ n / 10000 % 10
back_4 n = omega arith

pub back_3 : (n : ℕ) → n % 1000000 / 1000 % 10 ≡ n / 1000 % 10
back_3 n = omega arith

pub back_2 : (n : ℕ) → n % 1000000 / 100 % 10 ≡ n / 100 % 10
back_2 n = omega arith

pub back_1 : (n : ℕ) → n % 1000000 / 10 % 10 ≡ n / 10 % 10
back_1 n = omega arith

pub back_0 : (n : ℕ) → n % 1000000 / 1 % 10 ≡ n / 1 % 10
back_0 n = omega arith
