mod StillAreas
