-- What the derived `==` of amplitudes tells.
use Rattle.std.proofs.Common.{◌≡◌, Bool, true, false, ◌&&◌, int_eq, refl, ap}
use Rattle.std.proofs.lemmas.Bool.Decides.{Decides-int_eq, Decides-and, Decides-like, Decides-at, not_from_Decides}
use Rattle.std.specs.Bool.{Decides}
use Rattle.amplitude.proofs.RingLaws.{parts}
use Rattle.amplitude.specs.declared.Amplitude.{Amplitude}

abbrev pub EqSays : Bool → Amplitude → Amplitude → Type 0
EqSays r a b = r ≡ (int_eq a.one b.one && (int_eq a.w b.w && (int_eq a.w2 b.w2 && int_eq a.w3 b.w3)))

pub eq_decides : (r : Bool) (a b : Amplitude) → EqSays r a b → Decides r (a ≡ b)
eq_decides r a b h =
    Decides-at r _ h (Decides-like _ (λ p. parts (p.0, p.1.0, p.1.1.0, p.1.1.1))
    (λ p. (ap (λ (x : Amplitude). x.one) p, (ap (λ (x : Amplitude). x.w) p, (ap (λ (x : Amplitude). x.w2) p, ap (λ (x : Amplitude). x.w3) p))))
    (Decides-and _ _ (Decides-int_eq a.one b.one) (Decides-and _ _ (Decides-int_eq a.w b.w) (Decides-and _ _ (Decides-int_eq a.w2 b.w2) (Decides-int_eq a.w3 b.w3)))))

pub same_amplitudes : (a b : Amplitude) → EqSays true a b → a ≡ b
same_amplitudes a b h = (eq_decides true a b h).0 refl

pub amplitude_discrete : (a b : Amplitude) → Dec (a ≡ b)
amplitude_discrete a b = go _ (eq_decides _ a b refl)
  where
    go : (r : Bool) → Decides r (a ≡ b) → Dec (a ≡ b)
    go true d = yes (d.0 refl)
    go false d = no (not_from_Decides false d refl)
