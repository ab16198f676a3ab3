use native.Mathlib.Omega.{arith}
use Rattle.text.proofs.Sequences.{token-yes, token-no}
use Rattle.text.proofs.characters.is_token.Goals as goal

pub returns-in-1-to-8 : goal.returns-in-1-to-8
returns-in-1-to-8 c = token-yes _ (omega arith) (omega arith) (λ e. omega arith) (λ e. omega arith) (λ e. omega arith)

pub returns-in-1-to-8-2 : goal.returns-in-1-to-8-2
returns-in-1-to-8-2 c = token-yes _ (omega arith) (omega arith) (λ e. omega arith) (λ e. omega arith) (λ e. omega arith)

pub returns-in-1-to-8-3 : goal.returns-in-1-to-8-3
returns-in-1-to-8-3 c = token-yes _ (omega arith) (omega arith) (λ e. omega arith) (λ e. omega arith) (λ e. omega arith)

pub returns-in_default : goal.returns-in_default
returns-in_default c = token-no _ (λ p q r s t. omega arith)

pub returns-in_default-2 : goal.returns-in_default-2
returns-in_default-2 c = token-no _ (λ p q r s t. omega arith)

pub returns-in_default-3 : goal.returns-in_default-3
returns-in_default-3 c = token-no _ (λ p q r s t. omega arith)

pub returns-in_default-4 : goal.returns-in_default-4
returns-in_default-4 c = token-no _ (λ p q r s t. omega arith)
