-- Guests that nothing later tells apart: one body's data are both.
use Rattle.flat_guest.specs.Body.{Body, IsGuest}
use Rattle.flat_guest.specs.Guest.{Guest}

pub record AreAlike (g h : Guest) : Type 0 where
  pub body : Body
  pub first : IsGuest body g
  pub second : IsGuest body h
