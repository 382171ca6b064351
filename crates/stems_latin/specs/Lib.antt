-- What the contracts of `stems_latin` cite, and the words of requests #112 and #102.
pub mod Latin
pub mod Centre
pub mod Drawn
