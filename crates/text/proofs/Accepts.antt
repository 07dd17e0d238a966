-- Which signs a reader takes: the limit and the place make no difference.
use Rattle.std.proofs.Common.{◌≡◌, ℕ, Bool, true, false, cond, ◌&&◌, eqb, ltb, List, [], ◌∷◌, length, is_some, Some, None, Option, sym, refl, ◌∙◌}
use Rattle.text.specs.declared.token.Token.{Token}
use Rattle.text.specs.declared.statement.Move.{Move}
use Rattle.text.specs.declared.statement.Move.TheVariants as move
use Rattle.text.specs.Accept.{accepts, size_of}
use Rattle.text.specs.Move.{moved}
use Rattle.text.specs.Reading.{State, Held, closes, called, place, act, settles, step}

both : {T : Type 0} (a b : Bool) (x : T) → is_some (cond a (cond b (Some x) None) None) ≡ (a && b)
both true true x = refl
both true false x = refl
both false b x = refl

module _ (limit : ℕ) (s : State) where
  called-some : (k : ℕ) → is_some (called limit k s) ≡ (ltb k (length s.blocks) && eqb (length s.names) (size_of s k))
  called-some k = both (ltb k (length s.blocks)) (eqb (length s.names) (size_of s k)) _

  closes_any : (hs : List Held) → is_some (closes limit s hs) ≡ is_some (closes 0 s hs)
  closes_any [] = refl
  closes_any (h ∷ hs) = refl

  act_any : (m : Move) → is_some (act limit s m) ≡ is_some (act 0 s m)
  act_any move.Close = closes_any s.braces
  act_any (move.Call k) = called-some k ∙ sym (both (ltb k (length s.blocks)) (eqb (length s.names) (size_of s k)) _)
  act_any m = refl

pub settles-some : (at : ℕ) (o : Option State) → is_some (settles at o) ≡ is_some o
settles-some at None = refl
settles-some at (Some s) = refl

pub accepts_any : (limit at : ℕ) (s : State) (t : Token) → is_some (step limit at s t) ≡ accepts s t
accepts_any limit at s t = let m = moved (place s) s.part t in settles-some at (act limit s m) ∙ act_any limit s m ∙ sym (settles-some 0 (act 0 s m))
